-- A worked pair for `two_calls`: the samples of seconds 0 and −1 mixed, with second 0 not even in the order of time, and the same samples second by second. Both calls pass checks 1 to 7 and 16, into
-- areas of other lengths and contents; the recordings are alike and differ; the means are worked out, and what an offset is taken about. By computing. Assumes nothing.
use mathlib.Core.Path.{◌≡◌, refl, ◌∙◌, ap}
use mathlib.Core.Logic.{◌≢◌}
use mathlib.Core.Bool.{true, false}
use mathlib.Core.List.{List, [], ◌∷◌, ◌++◌}
use Prim.Native.Nat.{ℕ}
use lib.IntN.{ℤ, pos, negsuc, pos-ne-negsuc}
use lib.ListN.{length, get_or, drop, replicate}
use lib.Ieee.{Float, nan, fin, of_int, add, div, lt, le}
use Rattle.float.specs.Signs.{magnitude_of}
use Rattle.checks.specs.Checks.{unrising, any_misplaced, not_finite}
use Rattle.checks.specs.Entries.{first_failing}
use Rattle.common.specs.Sums.{sum_from}
use Rattle.common.specs.Lists.{list_of}
use Rattle.common.specs.Search.{first_best}
use Rattle.samples.specs.Means.{Sample, recording, bin, insert, seconds, offset_sum, mean_instant, mean_frequency, mean_of, means, instants, Alike}
use Rattle.common.specs.Numbers.{nought, thousandth}
use Rattle.orbit.specs.Residuals.{Inputs}
use Rattle.orbit.specs.Passes.{measured_of, pass_refusal, pass_instants}
use Rattle.orbit.specs.Demand3.{TwoCalls}
use Rattle.orbit.proofs.Demand3.{two_calls}

abbrev hertz : ℕ → Float
hertz n = fin false n (pos 0)

-- at 0.7 s, −1 ns, 0.2 s, −0.5 s and 0 s
abbrev pub mixed_instants : List ℤ
mixed_instants = pos 700000000 ∷ negsuc 0 ∷ pos 200000000 ∷ negsuc 499999999 ∷ pos 0 ∷ []

abbrev pub mixed_frequencies : List Float
mixed_frequencies = hertz 11 ∷ hertz 13 ∷ hertz 7 ∷ hertz 5 ∷ hertz 3 ∷ []

-- the same by seconds
abbrev pub sorted_instants : List ℤ
sorted_instants = negsuc 0 ∷ negsuc 499999999 ∷ pos 700000000 ∷ pos 200000000 ∷ pos 0 ∷ []

abbrev pub sorted_frequencies : List Float
sorted_frequencies = hertz 13 ∷ hertz 5 ∷ hertz 11 ∷ hertz 7 ∷ hertz 3 ∷ []

abbrev pub mixed : List Sample
mixed = recording mixed_instants mixed_frequencies

abbrev pub sorted : List Sample
sorted = recording sorted_instants sorted_frequencies

-- they are alike in each second
pub alike : Alike mixed sorted
unfolding recording bin
alike (pos n) = refl
alike (negsuc n) = refl

-- and they differ
pub differ : mixed ≢ sorted
unfolding recording
differ e = pos-ne-negsuc 700000000 0 (ap (λ (S : List Sample). get_or (instants S) 0 (pos 0)) e)

-- their means. Second −1: 499,999 whole µs before its base, −1 ns, halved toward zero. Second 0: 500,000 and 700,000 µs before its base, a third of the sum
pub mixed_means : means mixed ≡ record { instant = negsuc 249999000; frequency = hertz 9 } ∷ record { instant = pos 300000000; frequency = hertz 7 } ∷ []
unfolding recording means seconds insert bin mean_of mean_instant mean_frequency offset_sum sum_from add div of_int
mixed_means = refl

-- two means have no slope, so an offset is taken about the second of them, at index 2/2, as the fallback
pub mixed_measured : measured_of (means mixed) ≡ record { instant = record { 0 = pos 300000000 }; fallback = true }
unfolding list_of first_best lt
mixed_measured = ap measured_of mixed_means

-- ---- the other inputs: ten coordinates a minute apart, at 7,000 km on each axis, an observer at 6,400 km on one, and a tolerance of a millisecond

abbrev minutes : List ℤ
minutes = pos 0 ∷ pos 60000000000 ∷ pos 120000000000 ∷ pos 180000000000 ∷ pos 240000000000 ∷ pos 300000000000 ∷ pos 360000000000 ∷ pos 420000000000 ∷ pos 480000000000 ∷ pos 540000000000 ∷ []

abbrev pub others : Inputs
others = record {
  instants = minutes;
  positions = replicate 30 (fin false 109375 (pos 6));
  settings = record {
    observer = record { x = record { 0 = fin false 3125 (pos 11) }; y = record { 0 = nought }; z = record { 0 = nought } };
    f0 = record { 0 = fin false 1953125 (pos 9) };
    tolerance = record { 0 = thousandth };
  };
}

-- the first call's areas have room for the five samples and hold zeros; the second's are longer and hold other things
pub mixed_passes : pass_refusal others mixed_instants mixed_frequencies (replicate 5 (pos 0)) (replicate 5 nought) ≡ 0
unfolding first_failing unrising any_misplaced not_finite magnitude_of lt le
mixed_passes = refl

pub sorted_passes : pass_refusal others sorted_instants sorted_frequencies (replicate 8 (negsuc 6)) (replicate 6 nan) ≡ 0
unfolding first_failing unrising any_misplaced not_finite magnitude_of lt le
sorted_passes = refl

-- so the two calls give the same
pub mixed_calls : TwoCalls others mixed_instants mixed_frequencies (replicate 5 (pos 0)) (replicate 5 nought) sorted_instants sorted_frequencies (replicate 8 (negsuc 6)) (replicate 6 nan)
mixed_calls = two_calls others mixed_instants mixed_frequencies (replicate 5 (pos 0)) (replicate 5 nought) sorted_instants sorted_frequencies (replicate 8 (negsuc 6)) (replicate 6 nan) mixed_passes sorted_passes alike

-- and the means stand at the front of each call's areas, the rest untouched
pub mixed_area : pass_instants others mixed_instants mixed_frequencies (replicate 5 (pos 0)) (replicate 5 nought) ≡ negsuc 249999000 ∷ pos 300000000 ∷ replicate 3 (pos 0)
mixed_area = mixed_calls.one.instants_are ∙ ap (λ (M : List Sample). instants M ++ drop (length M) (replicate 5 (pos 0))) mixed_means

pub sorted_area : pass_instants others sorted_instants sorted_frequencies (replicate 8 (negsuc 6)) (replicate 6 nan) ≡ negsuc 249999000 ∷ pos 300000000 ∷ replicate 6 (negsuc 6)
sorted_area = mixed_calls.other.instants_are ∙ ap (λ (M : List Sample). instants M ++ drop (length M) (replicate 8 (negsuc 6))) mixed_means
