-- `fit_satellite`: the shift whose residuals have the first least RMSE. Instants are nanoseconds, shifts seconds, frequencies hertz.
use Rattle.std.specs.Prelude.{ℕ, ◌/◌, Bool, false, cond, ◌&&◌, List, [], ◌++◌, map, ltb, ℤ, pos, length, Float}
use Rattle.std.specs.Float.{binary64}
use Rattle.std.specs.Float.Ieee.{lt}
use Rattle.common.specs.Rounded.{◌⊕◌, ◌⊖◌, ◌⊗◌}
use Rattle.common.specs.Numbers.{nought, five, fifteen, tenth, twentieth, thousandth, hundred_thousandth, largest_finite}
use Rattle.common.specs.Lists.{list_of}
use Rattle.common.specs.Search.{first_best}
use Rattle.float.specs.Root.{root}
use Rattle.float.specs.Conversions.{nearest_of}
use Rattle.float.specs.Signs.{magnitude_of}
use Rattle.common.specs.Outcome.{Outcome, refused, answered, unless_refused}
use Rattle.checks.specs.Entries.{first_failing, fit_checks}
use Rattle.samples.specs.Means.{Sample, recording, instants}
use Rattle.samples.specs.Approach.{gap_of}
use Rattle.orbit.specs.declared.stages.Stage.{Stage}
use Rattle.units.specs.declared.Nanoseconds.{Nanoseconds}
use Rattle.orbit.specs.declared.fit.Report.{Report}
use Rattle.orbit.specs.Closest.{closest_instant}
use Rattle.orbit.specs.Residuals.{Inputs, Residual, residual_of, residuals, mean_over, squared_deviation, outside_count}

-- a shift in seconds with its frequency offset and RMSE in hertz, and whether enough samples are left
pub record Trial : Type 0 where
  pub shift : Float
  pub frequency_offset : Float
  pub rmse : Float
  pub enough : Bool

-- "The frequency offset is the mean residual; RMSE is the root of the mean squared rest"; "more than half the samples (whole-number half) left"
unfoldable pub trial : (Float → Sample → Residual) → List Sample → Float → Trial
trial residual S shift =
    let ys = residuals (residual shift) S in
    let frequency_offset = mean_over ys in
    record {
      shift = shift;
      frequency_offset = frequency_offset;
      rmse = root binary64 (mean_over (map (squared_deviation frequency_offset) ys));
      enough = ltb (length S / 2) (length ys);
    }

-- "Usable: more than half the samples (whole-number half) left and an RMSE below the largest finite double"
abbrev pub usable : Trial → Bool
usable t = t.enough && lt t.rmse largest_finite

-- ---- the first least

-- the best trial so far, if there is one
pub data Best : Type 0 where
  none_yet : Best
  found : Trial → Best

-- its RMSE, in hertz; with none the largest finite double, which no usable trial reaches
abbrev pub rmse_of : Best → Float
rmse_of none_yet = largest_finite
rmse_of (found t) = t.rmse

-- whether enough samples are left; with none there are not
abbrev pub enough_of : Best → Bool
enough_of none_yet = false
enough_of (found t) = t.enough

-- "A later candidate wins only by a smaller RMSE": enough samples are left, and its RMSE is below the other's
abbrev pub smaller : Best → Best → Bool
smaller a b = enough_of a && lt (rmse_of a) (rmse_of b)

-- "the earliest of least RMSE among the usable shifts"
abbrev pub first_least : (Float → Trial) → List Float → Best
first_least try L = first_best smaller none_yet (map (λ x. found (try x)) L)

-- ---- the list of the shifts

-- step n of a stage: start + step × increment
abbrev pub shift_at : Stage → ℕ → Float
shift_at s step = s.start.0 ⊕ nearest_of (pos step) ⊗ s.increment.0

-- the shifts of a stage, "steps rising"
unfoldable pub shifts_of : Stage → List Float
shifts_of s = list_of (shift_at s) s.steps 0

-- "Coarse: centre − 15.0 + step·0.1, steps 0 to 300"
abbrev pub coarse_stage : Float → Stage
coarse_stage centre = record { start = record { 0 = centre ⊖ fifteen }; increment = record { 0 = tenth }; steps = 301 }

-- "Fine: from the first least so far − 0.05, step·0.001, 0 to 100"
abbrev pub fine_stage : Float → Stage
fine_stage best = record { start = record { 0 = best ⊖ twentieth }; increment = record { 0 = thousandth }; steps = 101 }

-- "Micro: from the first least so far − 0.001, step·0.00001, 0 to 200"
abbrev pub micro_stage : Float → Stage
micro_stage best = record { start = record { 0 = best ⊖ thousandth }; increment = record { 0 = hundred_thousandth }; steps = 201 }

-- "a second centre 0.0 if its magnitude is over 5.0"
unfoldable pub coarse : Float → List Float
coarse centre = shifts_of (coarse_stage centre) ++ cond (lt five (magnitude_of centre)) (shifts_of (coarse_stage nought)) []

-- the shifts of a further stage about the first least of those before: "Without a usable coarse shift there are no fine or micro ones"
abbrev pub further : (Float → Stage) → Best → List Float
further stage none_yet = []
further stage (found t) = shifts_of (stage t.shift)

module _ (try : Float → Trial) (centre : Float) where
  -- the coarse shifts and the fine ones
  unfoldable pub coarse_fine : List Float
  coarse_fine = coarse centre ++ further fine_stage (first_least try (coarse centre))

  -- "The shifts are one list": coarse, fine, micro
  unfoldable pub shifts : List Float
  shifts = coarse_fine ++ further micro_stage (first_least try coarse_fine)

-- ---- the outcome

-- the instant that a fit is taken about, and whether it is the fallback
pub record Measured : Type 0 where
  pub instant : Nanoseconds
  pub fallback : Bool

-- what a report says beside the trial that wins: how many samples were fitted, the instant that the offset was taken about with whether it was the
-- fallback, and for each shift how many of the samples lie outside the table once moved by it
pub record Basis : Type 0 where
  pub count : ℕ
  pub measured : Measured
  pub outside_count : Float → ℕ

-- that of a fit of samples to a table, by the instants of its coordinates, about a measured instant
abbrev pub basis_of : List ℤ → List Sample → Measured → Basis
basis_of coordinates S measured = record { count = length S; measured = measured; outside_count = outside_count coordinates (instants S) }

-- "the three doubles and the count"; request 2.4: "The report carries that instant, the fallback to the middle mean included, and a yes or no
-- whether it was the fallback"; request 2.6: it "gains the number of means whose instant, moved by the reported shift, lies outside". A report is
-- made here alone
abbrev pub report_of : Basis → Float → Float → Float → Report
report_of basis shift frequency_offset rmse = record {
  clock_offset = record { 0 = shift };
  frequency_offset = record { 0 = frequency_offset };
  rmse = record { 0 = rmse };
  count = basis.count;
  approach = basis.measured.instant;
  fallback = basis.measured.fallback;
  outside = basis.outside_count shift;
}

-- the report of a trial
abbrev pub report_of_trial : Basis → Trial → Report
report_of_trial basis t = report_of basis t.shift t.frequency_offset t.rmse

-- 10. "No coarse candidate is usable"
abbrev pub none_usable_refusal : ℕ
none_usable_refusal = 10

-- the report of the best, refused where there is none
abbrev pub report_of_best : Basis → Best → Outcome Report
report_of_best basis none_yet = refused none_usable_refusal
report_of_best basis (found t) = answered (report_of_trial basis t)

-- the fit by the trials of samples about a centre
unfoldable pub fit_by_trials : (Float → Trial) → Basis → Float → Outcome Report
fit_by_trials try basis centre = report_of_best basis (first_least try (shifts try centre))

-- the predicted instant: that of the closest approach about the measured one, in nanoseconds
abbrev pub predicted_by : Inputs → ℤ → ℤ
predicted_by i measured = closest_instant i.settings.tolerance i.instants i.positions i.settings.observer measured

-- "Centre: measured minus predicted, in whole milliseconds over 1000"
abbrev pub centre_of : Inputs → ℤ → Float
centre_of i measured = gap_of (predicted_by i measured) measured

-- the fit of samples about a measured instant
abbrev pub fit_of : Inputs → List Sample → Measured → Outcome Report
fit_of i S measured = fit_by_trials (trial (residual_of i) S) (basis_of i.instants S measured) (centre_of i measured.instant.0)

-- ---- the entry: checks 1, 2, 4, 5, 6, 7, 16, then 10

-- request 2.4: "always no at the fit entry, which is given its instant"
abbrev pub given : ℤ → Measured
given t = record { instant = record { 0 = t }; fallback = false }

-- the refusal, or the fit
abbrev pub fit_satellite : Inputs → List ℤ → List Float → ℤ → Outcome Report
fit_satellite i ts fs measured =
    unless_refused (first_failing (fit_checks i.instants i.positions ts fs i.settings measured))
    (fit_of i (recording ts fs) (given measured))
