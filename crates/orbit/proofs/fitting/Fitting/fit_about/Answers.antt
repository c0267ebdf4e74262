-- The predicted instant and so the centre are near; the best candidate is the first least of all the shifts. Assumes nothing.
use mathlib.Core.Path.{◌≡◌, sym, ap, ap₂, ◌∙◌, subst}
use mathlib.Core.List.{List}
use Prim.Native.Nat.{ℕ}
use borrow.Author.Rules.{rules}
use lib.IntN.{ℤ}
use lib.ListN.{length}
use lib.Ieee.{Float}
use Rattle.std.specs.Prelude.{Err, None, Option}
use Rattle.std.specs.Option.{ok_or}
use Rattle.common.specs.Outcome.{answered}
use Rattle.common.specs.Refusals.{told}
use Rattle.common.specs.declared.refusal.Refusal.TheVariants.{NoShift}
use Rattle.float.specs.Bounds.{Within}
use Rattle.samples.specs.Means.{recording}
use Rattle.samples.specs.Approach.{gap_of}
use Rattle.samples.proofs.Recordings.{record_length, record_instants}
use Rattle.orbit.specs.declared.fit.Report.{Report}
use Rattle.orbit.specs.declared.stages.Candidate.{Candidate}
use Rattle.orbit.specs.Bounds.{farthest_centre}
use Rattle.orbit.specs.Residuals.{outside_count}
use Rattle.orbit.specs.Fit.{Measured, Trial, Best, none_yet, found, first_least, shifts, Basis, basis_of, report_of_trial, report_of_best, fit_by_trials, centre_of}
use Rattle.orbit.specs.Fitting.{inputs_by, measured_in, trial_by, trial_in, best_in}
use Rattle.orbit.proofs.Centre.{centre-small}
use Rattle.orbit.proofs.fitting.Fitting.fit_about.Goals as goal

-- the outcome by the best of all candidates
outcome_is : (try : Float → Trial) (basis : Basis) (centre : Float) (b : Best) → b ≡ first_least try (shifts try centre) → report_of_best basis b ≡ fit_by_trials try basis centre
unfolding fit_by_trials
outcome_is try basis centre b e = ap (report_of_best basis) e

-- what the report says beside the best: of the slices of instants as of the recording
basis_is : (coordinates ts : List ℤ) (fs : List Float) (measured : Measured) → length fs ≡ length ts
    → ◌≡◌ {A = Basis} (record { count = length ts; measured = measured; outside_count = outside_count coordinates ts }) (basis_of coordinates (recording ts fs) measured)
basis_is coordinates ts fs measured same =
    ap₂ {C = Basis} (λ (n : ℕ) (l : List ℤ). record { count = n; measured = measured; outside_count = outside_count coordinates l }) (sym (record_length ts fs same)) (sym (record_instants ts fs same))

pub best_candidate-requires : goal.best_candidate-requires
best_candidate-requires c =
    let o = c.args.self.now.orbit in
    let t = c.args.approach.instant.instant.0 in
    let centre = c.gap_between-centre.ensures ∙ ap (λ (z : ℤ). gap_of z t) c.closest-predicted.ensures in
    subst (Within farthest_centre) (sym centre) (centre-small o.tolerance o.table.instants.now o.table.positions.now c.args.self.now.observer t)

pub returns-in_err-best : goal.returns-in_err-best
returns-in_err-best c =
    let self = c.args.self.now in
    let i = inputs_by self in
    let try = trial_by self in
    let t = c.args.approach.instant.instant.0 in
    let r = self.recording in
    let centre = c.gap_between-centre.ensures ∙ ap (λ (z : ℤ). gap_of z t) c.closest-predicted.ensures in
    let none : c.best_candidate.result ≡ None = c.in_err-best.ensures.ok_part in
    let least = sym (ap best_in none) ∙ c.best_candidate.ensures ∙ ap (λ (x : Float). first_least try (shifts try x)) centre in
    let refusal = c.in_err-best.ensures.value ∙ ap (λ (o : Option Candidate). ok_or o NoShift) none in
    let err : c.from_residual.result ≡ Err NoShift = search rules in
    ap (told (λ (x : Report). x)) err ∙ outcome_is try (basis_of i.instants (recording r.instants.now r.frequencies.now) (measured_in c.args.approach)) (centre_of i t) none_yet least

pub returns : goal.returns
returns c =
    let self = c.args.self.now in
    let i = inputs_by self in
    let try = trial_by self in
    let t = c.args.approach.instant.instant.0 in
    let r = self.recording in
    let best = trial_in c.in_ok-best.best in
    let centre = c.gap_between-centre.ensures ∙ ap (λ (z : ℤ). gap_of z t) c.closest-predicted.ensures in
    let least = sym (ap best_in c.in_ok-best.ensures.ok_part) ∙ c.best_candidate.ensures ∙ ap (λ (x : Float). first_least try (shifts try x)) centre in
    rw c.count_outside.ensures
    (ap (λ (b : Basis). answered (report_of_trial b best)) (basis_is i.instants r.instants.now r.frequencies.now (measured_in c.args.approach) r.checked.same)
    ∙ outcome_is try (basis_of i.instants (recording r.instants.now r.frequencies.now) (measured_in c.args.approach)) (centre_of i t) (found best) least)
