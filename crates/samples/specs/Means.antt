-- `downsample_data`: "one for each second that holds a sample, seconds rising". An instant is a signed count of nanoseconds since 1970-01-01.
use Rattle.std.specs.Prelude.{ℕ, ◌≡◌, cond, List, [], ◌∷◌, map, ℤ, pos, ◌+ℤ◌, ◌-ℤ◌, ◌*ℤ◌, ◌<ℤ◌, length, Float}
use Rattle.std.specs.Int.Signed.{lt_z, quot_z, shr_z}
use Rattle.common.specs.Rounded.{◌⊘◌}
use Rattle.float.specs.Conversions.{nearest_of}
use Rattle.common.specs.Outcome.{Outcome, outcome, area}
use Rattle.checks.specs.Entries.{first_failing, means_checks}
use Rattle.common.specs.Numbers.{nought}
use Rattle.common.specs.Integers.{eq_z}
use Rattle.common.specs.Sums.{sum_from}
use Rattle.common.specs.Time.{second, microsecond}

-- "A sample is an instant with its frequency", in nanoseconds and hertz
pub record Sample : Type 0 where
  pub instant : ℤ
  pub frequency : Float

-- the samples of two slices; "order is that of the slices"
unfoldable pub recording : List ℤ → List Float → List Sample
recording [] fs = []
recording (t ∷ ts) [] = []
recording (t ∷ ts) (f ∷ fs) = record { instant = t; frequency = f } ∷ recording ts fs

-- the instants of some samples
abbrev pub instants : List Sample → List ℤ
instants S = map (λ (x : Sample). x.instant) S

-- the frequencies of some samples
abbrev pub frequencies : List Sample → List Float
frequencies S = map (λ (x : Sample). x.frequency) S

-- "its whole second is the floor of its seconds": −1 ns lies in second −1, 0 ns in second 0
abbrev pub whole_second : ℤ → ℤ
whole_second t = shr_z t second

-- the samples of the second s, in their order
unfoldable pub bin : ℤ → List Sample → List Sample
bin s [] = []
bin s (x ∷ xs) = cond (eq_z (whole_second x.instant) s) (x ∷ bin s xs) (bin s xs)

-- s put into a list that rises, unless it is there
unfoldable pub insert : ℤ → List ℤ → List ℤ
insert s [] = s ∷ []
insert s (t ∷ ts) = cond (lt_z s t) (s ∷ t ∷ ts) (cond (lt_z t s) (t ∷ insert s ts) (t ∷ ts))

-- the seconds that hold a sample, rising
unfoldable pub seconds : List Sample → List ℤ
seconds [] = []
seconds (x ∷ xs) = insert (whole_second x.instant) (seconds xs)

-- "sum of offsets in whole microseconds, each toward zero": each instant's distance from base
unfoldable pub offset_sum : ℤ → List Sample → ℤ
offset_sum base [] = pos 0
offset_sum base (x ∷ xs) = quot_z (x.instant -ℤ base) (pos microsecond) +ℤ offset_sum base xs

-- "the bin's first plus (sum of offsets in whole microseconds, each toward zero) divided by the count, toward zero"
unfoldable pub mean_instant : ℤ → List Sample → ℤ
mean_instant base xs = base +ℤ quot_z (offset_sum base xs) (pos (length xs)) *ℤ pos microsecond

-- "sum in sample order from 0.0, over the count"
unfoldable pub mean_frequency : List Sample → Float
mean_frequency xs = sum_from nought (frequencies xs) ⊘ nearest_of (pos (length xs))

-- the mean of a bin, whose base is its first sample's instant; an empty bin is no second's
unfoldable pub mean_of : List Sample → Sample
mean_of [] = record { instant = pos 0; frequency = nought }
mean_of (x ∷ xs) = record { instant = mean_instant x.instant (x ∷ xs); frequency = mean_frequency (x ∷ xs) }

-- "one for each second that holds a sample, seconds rising"
unfoldable pub means : List Sample → List Sample
means S = map (λ s. mean_of (bin s S)) (seconds S)

-- ---- the entry: checks 2, 3, 4, then the count of means and what the two areas hold

-- the number of the first check that fails, 0 where none does
abbrev pub downsample_refusal : List ℤ → List Float → List ℤ → List Float → ℕ
downsample_refusal ts fs instant_area frequency_area = first_failing (means_checks ts fs instant_area frequency_area)

-- a refusal, or how many means there are
abbrev pub downsample_data : List ℤ → List Float → List ℤ → List Float → Outcome ℕ
downsample_data ts fs instant_area frequency_area = outcome (downsample_refusal ts fs instant_area frequency_area) (length (means (recording ts fs)))

-- what the area for instants holds afterwards
abbrev pub downsampled_instants : List ℤ → List Float → List ℤ → List Float → List ℤ
downsampled_instants ts fs instant_area frequency_area =
    area (downsample_refusal ts fs instant_area frequency_area) (instants (means (recording ts fs))) instant_area

-- what the area for frequencies holds afterwards
abbrev pub downsampled_frequencies : List ℤ → List Float → List ℤ → List Float → List Float
downsampled_frequencies ts fs instant_area frequency_area =
    area (downsample_refusal ts fs instant_area frequency_area) (frequencies (means (recording ts fs))) frequency_area

-- ---- what demand 3 says of the means

-- two recordings that are alike in the samples of each whole second and their order there
abbrev pub Alike : List Sample → List Sample → Type 0
Alike S S' = (s : ℤ) → bin s S ≡ bin s S'

-- s is below each of the list
abbrev pub Under : ℤ → List ℤ → Type 0
Under s [] = Unit {0}
Under s (t ∷ ts) = (s <ℤ t) × Under s ts

-- each number of the list is below all after it
abbrev pub Rising : List ℤ → Type 0
Rising [] = Unit {0}
Rising (s ∷ ts) = Under s ts × Rising ts
