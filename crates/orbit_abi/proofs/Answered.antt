-- 0 says answered: no entry's outcome is a refusal with the number 0, so a C caller reads an answer exactly where there is one. A check that fails gives
-- its own number, and 8, 9 and 10 come from their own cases; none of them is 0, nor is 11, 12 or 13 of the reader of orbit files, nor 14 or 15 of the board. Assumes nothing.
use mathlib.Core.Path.{◌≡◌, refl}
use mathlib.Core.Bool.{Bool, true, false, cond}
use mathlib.Core.List.{List}
use Prim.Native.Nat.{ℕ, zero, suc}
use native.Mathlib.Omega.{arith}
use lib.IntN.{ℤ, pos}
use lib.ListN.{length, get_or}
use lib.Ieee.{Float, lt}
use Rattle.common.specs.Numbers.{nought}
use Rattle.units.specs.declared.Seconds.{Seconds}
use Rattle.units.specs.declared.Observer.{Observer}
use Rattle.units.specs.declared.LeapSeconds.{LeapSeconds}
use Rattle.sp3.specs.Entries.{sp3_refusal, records_of, read_sp3}
use Rattle.chebyshev.specs.Inverse.{Matrix, inverted}
use Rattle.chebyshev.proofs.Columns.{inverted_told}
use Rattle.orbit.proofs.Models.{inversion_told}
use Rattle.common.specs.Outcome.{Told, mapped, Outcome, refused, answered, outcome, unless_refused, refusal_in}
use Rattle.checks.specs.Entries.{first_failing, evaluation_checks, propagation_checks, closest_checks, samples_checks, fit_checks}
use Rattle.samples.specs.Means.{recording, means, downsample_refusal, downsample_data}
use Rattle.samples.specs.Approach.{no_floor, slope_floor, least_slope, approach_of, estimate_measured_pca_time, steepest_slope, no_fall_refusal}
use Rattle.board.specs.declared.entries.Entry.{Entry}
use Rattle.board.specs.Board.{board_refusal, board_offset, fleet_board}
use Rattle.orbit.specs.declared.window.ChebyshevOrbit.{ChebyshevOrbit}
use Rattle.orbit.specs.Window.{window_start, window_seconds, inversion_of, model_about, get_chebyshev_model}
use Rattle.orbit.specs.Place.{located}
use Rattle.orbit.specs.Propagation.{motion_at, evaluate, propagate_ecef}
use Rattle.orbit.specs.Closest.{closest_instant, find_pca_time}
use Rattle.orbit.specs.Residuals.{Inputs, residual_of}
use Rattle.orbit.specs.Fit.{Trial, trial, Best, none_yet, found, Basis, basis_of, report_of_best, first_least, shifts, fit_by_trials, centre_of, fit_of, given, fit_satellite}
use Rattle.orbit.specs.Passes.{measured_of, pass_refusal, pass_outcome, pass}

-- the number 0 is an answer's
pub answered_by_zero : {A : Type 0} (o : Outcome A) → Told o → refusal_in o ≡ 0 → (a : A) × (o ≡ answered a)
answered_by_zero (refused zero) t e = absurd t
answered_by_zero (refused (suc n)) t e = absurd (omega (arith, e))
answered_by_zero (answered a) t e = (a, refl)

-- ---- the ways to an outcome

by_checks : {A : Type 0} (n : ℕ) (a : A) → Told (outcome n a)
by_checks zero a = tt
by_checks (suc n) a = tt

after_checks : {A : Type 0} (n : ℕ) (o : Outcome A) → Told o → Told (unless_refused n o)
after_checks zero o t = t
after_checks (suc n) o t = tt

by_answer : {A B : Type 0} (f : A → B) (o : Outcome A) → Told o → Told (mapped f o)
by_answer f (refused zero) t = t
by_answer f (refused (suc n)) t = tt
by_answer f (answered a) t = tt

by_slope : (b : Bool) (t : ℤ) → Told (cond b (answered t) (refused no_fall_refusal))
by_slope true t = tt
by_slope false t = tt

by_best : (basis : Basis) (b : Best) → Told (report_of_best basis b)
by_best basis none_yet = tt
by_best basis (found t) = tt

by_fit : (try : Float → Trial) (basis : Basis) (centre : Float) → Told (fit_by_trials try basis centre)
unfolding fit_by_trials
by_fit try basis centre = by_best basis (first_least try (shifts try centre))

about : (tolerance : Seconds) (instants : List ℤ) (positions : List Float) (t : ℤ) → Told (model_about tolerance instants positions t)
about tolerance instants positions t = let w = window_seconds instants (window_start instants t) in by_answer _ (inversion_of tolerance w) (inversion_told tolerance w)

-- ---- the entries

-- the inverse
pub inverse_told : (a : Matrix) → Told (inverted a)
inverse_told = inverted_told

pub model_told : (instants : List ℤ) (positions : List Float) (t : ℤ) (tolerance : Seconds) → Told (get_chebyshev_model instants positions t tolerance)
model_told instants positions t tolerance = after_checks (first_failing (propagation_checks instants positions t tolerance)) (model_about tolerance instants positions t) (about tolerance instants positions t)

pub evaluation_told : (m : ChebyshevOrbit) (t : ℤ) → Told (evaluate m t)
evaluation_told m t = by_checks (first_failing (evaluation_checks t)) (motion_at m t)

pub propagation_told : (instants : List ℤ) (positions : List Float) (t : ℤ) (tolerance : Seconds) → Told (propagate_ecef instants positions t tolerance)
propagation_told instants positions t tolerance =
    let m = model_about tolerance instants positions t in
    let found = mapped (λ x. motion_at x t) m in
    after_checks (first_failing (propagation_checks instants positions t tolerance)) (mapped (located instants t) found) (by_answer (located instants t) found (by_answer (λ x. motion_at x t) m (about tolerance instants positions t)))

pub closest_told : (instants : List ℤ) (positions : List Float) (o : Observer) (t : ℤ) (tolerance : Seconds) → Told (find_pca_time instants positions o t tolerance)
closest_told instants positions o t tolerance = let found = closest_instant tolerance instants positions o t in by_checks (first_failing (closest_checks instants positions o t tolerance)) (located instants found found)

pub means_told : (ts : List ℤ) (fs : List Float) (is : List ℤ) (hs : List Float) → Told (downsample_data ts fs is hs)
means_told ts fs is hs = by_checks (downsample_refusal ts fs is hs) (length (means (recording ts fs)))

pub approach_told : (ts : List ℤ) (fs : List Float) → Told (estimate_measured_pca_time ts fs)
approach_told ts fs = let best = least_slope no_floor ts fs in after_checks (first_failing (samples_checks ts fs)) (approach_of ts fs) (by_slope (lt best.slope nought) (get_or ts best.middle (pos 0)))

pub steepest_told : (ts : List ℤ) (fs : List Float) → Told (steepest_slope ts fs)
steepest_told ts fs = by_checks (first_failing (samples_checks ts fs)) (least_slope slope_floor ts fs).slope

pub fit_told : (i : Inputs) (ts : List ℤ) (fs : List Float) (measured : ℤ) → Told (fit_satellite i ts fs measured)
fit_told i ts fs measured =
    after_checks (first_failing (fit_checks i.instants i.positions ts fs i.settings measured)) (fit_of i (recording ts fs) (given measured))
    (by_fit (trial (residual_of i) (recording ts fs)) (basis_of i.instants (recording ts fs) (given measured)) (centre_of i measured))

pub pass_told : (i : Inputs) (ts : List ℤ) (fs : List Float) (is : List ℤ) (hs : List Float) → Told (pass i ts fs is hs)
pass_told i ts fs is hs =
    let M = means (recording ts fs) in
    after_checks (pass_refusal i ts fs is hs) (pass_outcome i (recording ts fs)) (by_fit (trial (residual_of i) M) (basis_of i.instants M (measured_of M)) (centre_of i (measured_of M).instant.0))

pub sp3_told : (bytes satellite : List ℕ) (leaps : LeapSeconds) (is : List ℤ) (ps : List Float) → Told (read_sp3 bytes satellite leaps is ps)
sp3_told bytes satellite leaps is ps = by_checks (sp3_refusal bytes satellite leaps is ps) (length (records_of bytes satellite leaps))

pub board_told : (es : List Entry) → Told (fleet_board es)
board_told es = by_checks (board_refusal es) (board_offset es)
