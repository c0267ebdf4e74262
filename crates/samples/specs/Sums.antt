-- Inner: the first nanosecond of a second; instants of one second; the sums over such samples; the means of
-- two slices.
use Rattle.std.specs.Prelude.{ℕ, ◌+◌, ◌≤◌, ◌<◌, ◌≡◌, List, ℤ, pos, nat_abs, ◌*ℤ◌, length, Float}
use Rattle.checks.specs.Limits.{farthest_instant}
use Rattle.common.specs.Numbers.{nought}
use Rattle.common.specs.Sums.{sum_from}
use Rattle.common.specs.Time.{second}
use Rattle.samples.specs.declared.sums.Sums.{Sums}
use Rattle.samples.specs.declared.sums.Mean.{Mean}
use Rattle.samples.specs.Runs.{second_at}
use Rattle.samples.specs.Means.{Sample, whole_second, offset_sum, bin, recording, mean_of, means, instants, frequencies}

-- the first nanosecond of an instant's second
abbrev pub second_start : ℤ → ℤ
second_start t = whole_second t *ℤ pos second

-- the first nanosecond of a second, within reach of the instants
pub record StartsSecond (start : ℤ) : Type 0 where
  pub whole : second_start start ≡ start
  pub limited : nat_abs start ≤ farthest_instant + second

-- instants all of one second
abbrev pub OneSecond : List ℤ → Type 0
OneSecond ts = (k : ℕ) → k < length ts → second_at ts k ≡ second_at ts 0

-- the sums over some samples, their offsets counted from base
abbrev pub sums_of : ℤ → List Sample → Sums
sums_of base xs = record { micros = offset_sum base xs; hertz = sum_from nought (frequencies xs) }

-- a sample as the mean that it is
abbrev pub as_mean : Sample → Mean
as_mean x = record { instant = record { 0 = x.instant }; frequency = record { 0 = x.frequency } }

-- the mean of the second of sample k
abbrev pub mean_at : List ℤ → List Float → ℕ → Sample
mean_at ts fs k = mean_of (bin (second_at ts k) (recording ts fs))

-- the instants of the means of two slices, as they are written
abbrev pub instants_of_means : List ℤ → List Float → List ℤ
instants_of_means ts fs = instants (means (recording ts fs))

-- their frequencies
abbrev pub frequencies_of_means : List ℤ → List Float → List Float
frequencies_of_means ts fs = frequencies (means (recording ts fs))
