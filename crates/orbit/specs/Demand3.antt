-- Demand 3: what is promised of two recordings, of usable shifts and of the first least RMSE, in document 01's words and with its parts by name.
-- `demand_3` and `two_calls` (proofs/Demand3.antt) show it of every recording and all other inputs; docs/DEMAND3.md goes through it clause by clause.
use Rattle.std.specs.Prelude.{◌≡◌, ◌≢◌, ◌↔◌, Bool, true, false, not, cond, ℕ, ◌+◌, ◌/◌, ◌≤◌, ◌<◌, T, ℤ, pos, length, get_or, drop, Float}
use mathlib.Core.List.{List, [], ◌++◌, map, Memᴰ}
use Rattle.std.specs.Float.{nan, binary64}
use Rattle.std.specs.Float.Ieee.{lt, le}
use Rattle.checks.specs.Checks.{no_tolerance}
use Rattle.chebyshev.specs.Inverse.{singular_refusal}
use Rattle.common.specs.Numbers.{nought, largest_finite, five, fifteen, tenth, twentieth, thousandth, hundred_thousandth}
use Rattle.common.specs.Rounded.{◌⊕◌, ◌⊖◌, ◌⊗◌}
use Rattle.common.specs.Outcome.{Outcome, refused, answered}
use Rattle.common.specs.Search.{Searched}
use Rattle.common.specs.Lists.{how_many}
use Rattle.float.specs.Root.{root}
use Rattle.float.specs.Signs.{magnitude_of}
use Rattle.float.specs.Conversions.{nearest_of}
use Rattle.samples.specs.Means.{Sample, recording, whole_second, bin, seconds, mean_of, means, instants, frequencies, Alike, Rising}
use Rattle.samples.specs.Approach.{gap_of, Falls, FirstFall}
use Rattle.orbit.specs.declared.fit.Report.{Report}
use Rattle.orbit.specs.declared.closest.LeastRange.{LeastRange}
use Rattle.orbit.specs.declared.closest.Offsets.{Offsets}
use Rattle.orbit.specs.declared.propagation.Motion.{Motion}
use Rattle.orbit.specs.Closest.{moved_by_seconds, nearer, centred, minutes, seconds_about, ranged_at, by_minutes, by_seconds}
use Rattle.orbit.specs.Fit.{Trial, trial, usable, shifts_of, coarse_stage, fine_stage, micro_stage, coarse, coarse_fine, shifts, none_usable_refusal}
use Rattle.orbit.specs.Fit.{Basis, basis_of, report_of_trial, predicted_by, centre_of}
use Rattle.orbit.specs.Residuals.{Inputs, propagated_by, moved, lies_outside, residual_of, residuals, mean_over, squared_deviation}
use Rattle.orbit.specs.Passes.{middle_of, measured_of, pass_outcome, pass, pass_instants, pass_frequencies}

-- ---- the means

-- a second is listed exactly when a sample lies in it, the seconds rise strictly, and no other list of seconds is such
pub record Listed (S : List Sample) : Type 0 where
  pub rises : Rising (seconds S)
  pub only_held : (s : ℤ) → Memᴰ s (seconds S) → bin s S ≢ []
  pub all_held : (s : ℤ) → bin s S ≢ [] → Memᴰ s (seconds S)
  pub no_other : (l : List ℤ) → Rising l
      → ((s : ℤ) → Memᴰ s l → bin s S ≢ [])
      → ((s : ℤ) → bin s S ≢ [] → Memᴰ s l)
      → l ≡ seconds S

-- the means are those of the seconds' samples, in the order of the seconds; each lies in its own second, and so they rise strictly
pub record Own (S : List Sample) : Type 0 where
  pub in_order : means S ≡ map (λ s. mean_of (bin s S)) (seconds S)
  pub own-second : map (λ m. whole_second m.instant) (means S) ≡ seconds S
  pub rise : Rising (instants (means S))

-- ---- a list of shifts

-- the trial at a place of a list of shifts
abbrev pub trial_at : (Float → Trial) → List Float → ℕ → Trial
trial_at try L j = try (get_or L j nan)

-- of the places below n: i is usable, no other usable place has a smaller RMSE, and each usable place before i has a larger one
pub record Wins (at : ℕ → Trial) (n i : ℕ) : Type 0 where
  pub inside : i < n
  pub can_be_used : T (usable (at i))
  pub least : (j : ℕ) → j < n → j ≢ i → T (usable (at j)) → T (not (lt (at j).rmse (at i).rmse))
  pub first : (j : ℕ) → j < i → T (usable (at j)) → T (lt (at i).rmse (at j).rmse)

-- no coarse shift is usable
abbrev pub NoCoarse : (Float → Trial) → Float → Type 0
NoCoarse try centre = (j : ℕ) → j < length (coarse centre) → T (not (usable (trial_at try (coarse centre) j)))

-- a list is the steps 0 to n − 1 of a stage: start + step × increment
pub record Steps (n : ℕ) (start increment : Float) (L : List Float) : Type 0 where
  pub many : length L ≡ n
  pub step : (j : ℕ) → j < n → get_or L j nan ≡ start ⊕ nearest_of (pos j) ⊗ increment

-- i is the first least of the coarse shifts and k that of the coarse and fine ones: the fine stage is about the shift at i, the micro stage
-- about the shift at k
pub record Listing (try : Float → Trial) (centre : Float) (i k : ℕ) : Type 0 where
  pub of_coarse : Wins (trial_at try (coarse centre)) (length (coarse centre)) i
  pub then_fine : coarse_fine try centre ≡ coarse centre ++ shifts_of (fine_stage (get_or (coarse centre) i nan))
  pub of_both : Wins (trial_at try (coarse_fine try centre)) (length (coarse_fine try centre)) k
  pub then_micro : shifts try centre ≡ coarse_fine try centre ++ shifts_of (micro_stage (get_or (coarse_fine try centre) k nan))

-- ---- the shifts of a recording

-- the trial of a shift over the means
abbrev pub tried : Inputs → List Sample → Float → Trial
tried i S = trial (residual_of i) (means S)

-- the measured instant of the means, in nanoseconds
abbrev pub measured_for : List Sample → ℤ
measured_for S = (measured_of (means S)).instant.0

-- what the report says beside the trial that wins
abbrev pub basis_for : Inputs → List Sample → Basis
basis_for i S = basis_of i.instants (means S) (measured_of (means S))

-- the first centre
abbrev pub centre_for : Inputs → List Sample → Float
centre_for i S = centre_of i (measured_for S)

-- "The shifts are one list, fixed by the inputs through the definitions"
abbrev pub shifts_for : Inputs → List Sample → List Float
shifts_for i S = shifts (tried i S) (centre_for i S)

-- the trial of the shift at a place of the list
abbrev pub tried_at : Inputs → List Sample → ℕ → Trial
tried_at i S = trial_at (tried i S) (shifts_for i S)

-- no coarse shift of a recording is usable
abbrev pub NoCoarseFor : Inputs → List Sample → Type 0
NoCoarseFor i S = NoCoarse (tried i S) (centre_for i S)

-- ---- the centre

-- about mean j the frequency falls: the seconds about it are above zero, and the slope is below zero
abbrev pub FallsAt : List Sample → ℕ → Type 0
FallsAt S j = Falls (instants (means S)) (frequencies (means S)) j

-- no slope below zero was found: the frequency falls about no mean
abbrev pub NoFall : List Sample → Type 0
NoFall S = (j : ℕ) → FallsAt S j → ⊥

-- "the first least below zero" is about mean k
abbrev pub FirstFallAt : List Sample → ℕ → Type 0
FirstFallAt S k = FirstFall (instants (means S)) (frequencies (means S)) k

-- the predicted instant: that of the closest approach about the measured one, in nanoseconds
abbrev pub predicted_for : Inputs → List Sample → ℤ
predicted_for i S = predicted_by i (measured_for S)

-- the offsets of a stage of the search for it, with their squared ranges
abbrev pub ranges_for : Inputs → List Sample → Offsets → ℕ → LeastRange
ranges_for i S = ranged_at i.settings.tolerance i.instants i.positions i.settings.observer (measured_for S)

-- the nearest by minutes
abbrev pub minutes_for : Inputs → List Sample → LeastRange
minutes_for i S = by_minutes i.settings.tolerance i.instants i.positions i.settings.observer (measured_for S)

-- the nearest by seconds
abbrev pub seconds_for : Inputs → List Sample → LeastRange
seconds_for i S = by_seconds i.settings.tolerance i.instants i.positions i.settings.observer (measured_for S)

-- how the first centre is fixed: measured minus predicted. Where the frequency falls about a mean, the measured instant is that of the one mean
-- that is the first of the least slopes, else that of the mean at index count/2; the predicted one is the measured one moved by the offset of the
-- first least squared range by minutes, then by seconds, each stage keeping its centre where no offset counts
pub record CentreIs (i : Inputs) (S : List Sample) : Type 0 where
  pub difference : centre_for i S ≡ gap_of (predicted_for i S) (measured_for S)
  pub first_fall : (j : ℕ) → FallsAt S j
      → (k : ℕ) × FirstFallAt S k × (measured_for S ≡ get_or (instants (means S)) k (pos 0)) × ((l : ℕ) → FirstFallAt S l → l ≡ k)
  pub else_middle : NoFall S → measured_for S ≡ middle_of (instants (means S))
  pub by_minutes_lem : Searched nearer (centred (pos 0)) (ranges_for i S minutes) 0 minutes.count (minutes_for i S)
  pub by_seconds_lem : let centre = (minutes_for i S).offset in let f = seconds_about centre in
      Searched nearer (centred centre) (ranges_for i S f) 0 f.count (seconds_for i S)
  pub predicted : predicted_for i S ≡ moved_by_seconds (measured_for S) (seconds_for i S).offset

-- ---- usable

-- "propagates to a position (one that holds a NaN too)"
abbrev pub positioned : Outcome Motion → Bool
positioned (refused n) = false
positioned (answered m) = true

-- "A mean can be propagated for a shift when its instant, moved by the shift as in `fit_satellite` and not checked again, propagates to a position"
abbrev pub propagates : Inputs → Float → Sample → Bool
propagates i x m = positioned (propagated_by i (moved m.instant x))

-- "The frequency offset is the mean residual": of those that a shift leaves, in the order of the means
abbrev pub offset_for : Inputs → List Sample → Float → Float
offset_for i S x = mean_over (residuals (residual_of i x) (means S))

-- "RMSE is the root of the mean squared rest"
abbrev pub rmse_for : Inputs → List Sample → Float → Float
rmse_for i S x = root binary64 (mean_over (map (squared_deviation (offset_for i S x)) (residuals (residual_of i x) (means S))))

-- a shift is usable exactly when more than half the means (whole-number half) can be propagated for it and its RMSE is below the largest finite
-- double; a mean that cannot be is refused by 8
pub record Usable (i : Inputs) (S : List Sample) : Type 0 where
  pub exactly : (x : Float)
      → T (usable (tried i S x)) ↔ ((length (means S) / 2 < how_many (propagates i x) (means S)) × T (lt (rmse_for i S x) largest_finite))
  pub rmse_is : (x : Float) → (tried i S x).rmse ≡ rmse_for i S x
  pub else_8 : (x : Float) (m : Sample) (n : ℕ) → propagated_by i (moved m.instant x) ≡ refused n → n ≡ singular_refusal

-- ---- the list

-- coarse (those of the first centre, then those of the second, 0.0, if the first's magnitude is over 5.0); then, where a coarse shift is usable,
-- fine about the first least of the coarse ones and micro about the first least so far; each stage by its number of steps, start and increment
pub record ShiftsAre (i : Inputs) (S : List Sample) : Type 0 where
  pub about : (centre : Float) → Steps 301 (centre ⊖ fifteen) tenth (shifts_of (coarse_stage centre))
  pub coarse_are : let centre = centre_for i S in
      coarse centre ≡ shifts_of (coarse_stage centre) ++ cond (lt five (magnitude_of centre)) (shifts_of (coarse_stage nought)) []
  pub coarse-many : length (coarse (centre_for i S)) ≡ cond (lt five (magnitude_of (centre_for i S))) 602 301
  pub fine_are : (best : Float) → Steps 101 (best ⊖ twentieth) thousandth (shifts_of (fine_stage best))
  pub micro_are : (best : Float) → Steps 201 (best ⊖ thousandth) hundred_thousandth (shifts_of (micro_stage best))
  pub none_further : NoCoarseFor i S → shifts_for i S ≡ coarse (centre_for i S)
  pub stages : (NoCoarseFor i S → ⊥) → (a : ℕ) × (b : ℕ) × Listing (tried i S) (centre_for i S) a b
  pub many : (NoCoarseFor i S → ⊥) → length (shifts_for i S) ≡ length (coarse (centre_for i S)) + 302

-- ---- the report

-- "A report's clock offset is its shift in seconds, its frequency offset and RMSE are those of that shift over the means": the mean residual, and
-- the root of the mean squared rest. The instant that the offset was taken about is the measured one, whose mean `CentreIs` tells; it is the fallback
-- exactly where the means have no slope below zero. Request 2.6: "the number of means whose instant, moved by the reported shift, lies outside",
-- of all the means, whether they can be propagated or not
pub record Fields (i : Inputs) (S : List Sample) (x : Float) (r : Report) : Type 0 where
  pub clock_offset : r.clock_offset.0 ≡ x
  pub frequency_offset : r.frequency_offset.0 ≡ offset_for i S x
  pub rmse_is : r.rmse.0 ≡ rmse_for i S x
  pub count_is : r.count ≡ length (means S)
  pub approach_is : r.approach.0 ≡ measured_for S
  pub fallback_exactly : T r.fallback ↔ NoFall S
  pub outside_is : r.outside ≡ how_many (λ m. lies_outside i.instants x m.instant) (means S)

-- the place k of the list: it is usable, the report is that of its shift, every other usable place has at least its RMSE and every earlier usable
-- place a larger one
pub record Choice (i : Inputs) (S : List Sample) (k : ℕ) : Type 0 where
  pub inside : k < length (shifts_for i S)
  pub can_be_used : T (usable (tried_at i S k))
  pub reported : pass_outcome i S ≡ answered (report_of_trial (basis_for i S) (tried_at i S k))
  pub least : (j : ℕ) → j < length (shifts_for i S) → j ≢ k → T (usable (tried_at i S j)) → T (le (tried_at i S k).rmse (tried_at i S j).rmse)
  pub first : (j : ℕ) → j < k → T (usable (tried_at i S j)) → T (lt (tried_at i S k).rmse (tried_at i S j).rmse)

-- ---- the demand

-- of any inputs i and recording S: what its means are, how many, how the centre is fixed, when a shift is usable, which the shifts are, when the
-- outcome is 10, else which place is reported and what stands in the report; and that means and outcome depend on the samples of each whole second
-- and their order there alone. A call that passes checks 1 to 7 and 16 answers this outcome (`one_call`)
pub record Demand3 (i : Inputs) (S : List Sample) : Type 0 where
  pub listed : Listed S
  pub own : Own S
  pub count : length (means S) ≡ length (seconds S)
  pub centre : CentreIs i S
  pub usable : Usable i S
  pub shifts : ShiftsAre i S
  pub refusal : (pass_outcome i S ≡ refused none_usable_refusal) ↔ NoCoarseFor i S
  pub choice : pass_outcome i S ≢ refused none_usable_refusal → (k : ℕ) × Choice i S k × ((j : ℕ) → Choice i S j → j ≡ k)
  pub reports : (k : ℕ) → Choice i S k → (r : Report) → pass_outcome i S ≡ answered r → Fields i S (get_or (shifts_for i S) k nan) r
  pub alone : (S' : List Sample) → Alike S S' → (means S ≡ means S') × (pass_outcome i S ≡ pass_outcome i S')

-- ---- two calls of the pass entry

-- a call that passes checks 1 to 7 and 16: its tolerance is one "that refusal 16 lets pass", its outcome is that of its recording, and each area
-- holds the means M at its front, which fit, and is untouched behind them, under refusal 10 too
pub record Call (i : Inputs) (ts : List ℤ) (fs : List Float) (a : List ℤ) (b : List Float) (M : List Sample) : Type 0 where
  pub tolerated : no_tolerance i.settings.tolerance ≡ false
  pub outcome_is : pass i ts fs a b ≡ pass_outcome i (recording ts fs)
  pub fits : (length M ≤ length a) × (length M ≤ length b)
  pub instants_are : pass_instants i ts fs a b ≡ instants M ++ drop (length M) a
  pub frequencies_are : pass_frequencies i ts fs a b ≡ frequencies M ++ drop (length M) b

-- two calls with the same other inputs, the tolerance among them (request 2.7: "Two recordings being compared must have the same tolerance"), whose
-- recordings are alike in the samples of each whole second and their order there: the same outcome and the same means. Nothing relates their areas,
-- nor the order across the seconds
pub record TwoCalls (i : Inputs) (ts : List ℤ) (fs : List Float) (a : List ℤ) (b : List Float) (ts' : List ℤ) (fs' : List Float)
    (a' : List ℤ) (b' : List Float) : Type 0 where
  pub same_report : pass i ts fs a b ≡ pass i ts' fs' a' b'
  pub one : Call i ts fs a b (means (recording ts fs))
  pub other : Call i ts' fs' a' b' (means (recording ts fs))
