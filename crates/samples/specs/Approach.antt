-- `estimate_measured_pca_time` and the steepest slope: the first least slope below zero.
use Rattle.std.specs.Prelude.{ℕ, ◌+◌, ◌-◌, ◌<◌, Bool, true, not, ◌&&◌, cond, List, T, ℤ, pos, ◌-ℤ◌, length, get_or, Float}
use Rattle.std.specs.Int.Signed.{quot_z}
use Rattle.std.specs.Float.{nan, inf, fin}
use Rattle.std.specs.Float.Ieee.{lt, le}
use Rattle.common.specs.Rounded.{◌⊖◌, ◌⊘◌}
use Rattle.float.specs.Conversions.{nearest_of}
use Rattle.common.specs.Lists.{list_of}
use Rattle.common.specs.Search.{first_best}
use Rattle.common.specs.Outcome.{Outcome, refused, answered, outcome, unless_refused}
use Rattle.checks.specs.Entries.{first_failing, samples_checks}
use Rattle.common.specs.Numbers.{nought, thousand}
use Rattle.common.specs.Time.{millisecond}
use Rattle.samples.specs.declared.approach.LeastSlope.{LeastSlope}

-- "slopes under −120 are passed over", in hertz for each second: −15 * 2 ^ 3
abbrev pub slope_floor : Float
slope_floor = fin true 15 (pos 3)

-- the measured approach passes over none: nothing is under −infinity
abbrev pub no_floor : Float
no_floor = inf true

-- "times in whole milliseconds over 1000": the seconds from one instant to another
abbrev pub gap_of : ℤ → ℤ → Float
gap_of previous next = nearest_of (quot_z (next -ℤ previous) (pos millisecond)) ⊘ thousand

-- the seconds from the sample before sample i to the one after it
abbrev pub gap_at : List ℤ → ℕ → Float
gap_at ts i = gap_of (get_or ts (i - 1) (pos 0)) (get_or ts (i + 1) (pos 0))

-- "(f next − f previous)/(t next − t previous)" about sample i, in hertz for each second
abbrev pub slope_at : List ℤ → List Float → ℕ → Float
slope_at ts fs i = (get_or fs (i + 1) nan ⊖ get_or fs (i - 1) nan) ⊘ gap_at ts i

-- sample i: its slope, and i itself, the middle
abbrev pub sloped : List ℤ → List Float → ℕ → LeastSlope
sloped ts fs i = record { slope = slope_at ts fs i; middle = i }

-- "only where positive": a sample counts where the seconds about it are above zero, and its slope is not under the floor
abbrev pub counts : Float → List ℤ → LeastSlope → Bool
counts floor ts s = lt nought (gap_at ts s.middle) && not (lt s.slope floor)

-- it counts, and its slope is below the other's
abbrev pub steeper : Float → List ℤ → LeastSlope → LeastSlope → Bool
steeper floor ts s t = counts floor ts s && lt s.slope t.slope

-- no sample yet: slope +0.0
abbrev pub no_slope_yet : LeastSlope
no_slope_yet = record { slope = nought; middle = 0 }

-- the first least slope below zero, over all samples but the first and the last; slope +0.0 where there is none
abbrev pub least_slope : Float → List ℤ → List Float → LeastSlope
least_slope floor ts fs = first_best (steeper floor ts) no_slope_yet (list_of (sloped ts fs) (length ts - 2) 1)

-- 9. "No slope below zero was found"
abbrev pub no_fall_refusal : ℕ
no_fall_refusal = 9

-- "the first least below zero gives its middle sample's instant", in nanoseconds; 9 where no slope below zero was found
abbrev pub approach_of : List ℤ → List Float → Outcome ℤ
approach_of ts fs = let best = least_slope no_floor ts fs in cond (lt best.slope nought) (answered (get_or ts best.middle (pos 0))) (refused no_fall_refusal)

-- ---- the entries: checks 2 and 4 first

-- the refusal, or the measured approach
abbrev pub estimate_measured_pca_time : List ℤ → List Float → Outcome ℤ
estimate_measured_pca_time ts fs = unless_refused (first_failing (samples_checks ts fs)) (approach_of ts fs)

-- "answers 0 where none is below zero or under three samples"
abbrev pub steepest_slope : List ℤ → List Float → Outcome Float
steepest_slope ts fs = outcome (first_failing (samples_checks ts fs)) (least_slope slope_floor ts fs).slope

-- ---- what demand 3 says of the measured approach

-- "only where positive", and a slope "below zero": sample j stands between two others, the seconds from the one to the other are above zero,
-- and the slope is below zero
pub record Falls (ts : List ℤ) (fs : List Float) (j : ℕ) : Type 0 where
  pub after : 0 < j
  pub before : j + 1 < length ts
  pub positive : T (lt nought (gap_at ts j))
  pub falling : T (lt (slope_at ts fs j) nought)

-- "the first least below zero": every other such sample has at least the slope of sample i, and every earlier one a larger slope
pub record FirstFall (ts : List ℤ) (fs : List Float) (i : ℕ) : Type 0 where
  pub falls : Falls ts fs i
  pub least : (j : ℕ) → Falls ts fs j → T (le (slope_at ts fs i) (slope_at ts fs j))
  pub first : (j : ℕ) → j < i → Falls ts fs j → T (lt (slope_at ts fs i) (slope_at ts fs j))
