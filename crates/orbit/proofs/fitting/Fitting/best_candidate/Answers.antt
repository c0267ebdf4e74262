-- Each further stage is about the best shift before, which is small, and begins with the best before. Assumes nothing.
use mathlib.Core.Path.{◌≡◌, sym, ap, ◌∙◌, subst}
use lib.Ieee.{of_bits}
use borrow.Author.Rules.{rules}
use Rattle.std.specs.Prelude.{Some, None}
use Rattle.float.specs.Bounds.{Within}
use Rattle.orbit.specs.declared.stages.Stage.{Stage}
use Rattle.orbit.specs.Bounds.{SmallStage, farthest_coarse, farthest_fine}
use Rattle.orbit.specs.Fit.{fine_stage, micro_stage}
use Rattle.orbit.specs.Fitting.{trial_by, trial_in, best_in, after_stage}
use Rattle.orbit.proofs.Trials.{shift_is}
use Rattle.orbit.proofs.Updates.{BestWithin}
use Rattle.orbit.proofs.Finish.{fine_fits, micro_fits, none_at_all, all_stages, never_lost, coarse-small, fine_small}
use Rattle.orbit.proofs.fitting.Fitting.best_candidate.Goals as goal

pub returns-in_err-coarse : goal.returns-in_err-coarse
returns-in_err-coarse c =
    let none : c.from_residual.result ≡ None = search rules in
    ap best_in none ∙ none_at_all (trial_by c.args.self.now) c.args.centre.0 c.in_err-coarse.ensures

pub run_stage-requires : goal.run_stage-requires
unfolding of_bits
run_stage-requires c =
    let found = c.in_ok-coarse in
    let near : Within farthest_coarse found.coarse.shift.seconds.0 = subst (BestWithin farthest_coarse) (sym found.ensures) (coarse-small (trial_by c.args.self.now) (shift_is _ _) c.args.centre.0 c.requires) in
    subst SmallStage (sym c.about.ensures) (fine_fits found.coarse.shift.seconds.0 near)

pub returns-in_err-fine : goal.returns-in_err-fine
unfolding of_bits
returns-in_err-fine c =
    let try = trial_by c.args.self.now in
    let start = best_in (Some c.in_ok-coarse.coarse) in
    absurd (never_lost try (fine_stage c.in_ok-coarse.coarse.shift.seconds.0) _ (c.in_err-fine.ensures ∙ ap (λ (x : Stage). after_stage try x start) c.about.ensures))

pub run_stage-requires-2 : goal.run_stage-requires-2
unfolding of_bits
run_stage-requires-2 c =
    let try = trial_by c.args.self.now in
    let coarse = c.in_ok-coarse.coarse in
    let fine = c.in_ok-fine.fine in
    let start = best_in (Some coarse) in
    let near : Within farthest_coarse coarse.shift.seconds.0 = subst (BestWithin farthest_coarse) (sym c.in_ok-coarse.ensures) (coarse-small try (shift_is _ _) c.args.centre.0 c.requires) in
    let after : best_in (Some fine) ≡ after_stage try (fine_stage coarse.shift.seconds.0) start = c.in_ok-fine.ensures ∙ ap (λ (x : Stage). after_stage try x start) c.about.ensures in
    let near_fine : Within farthest_fine fine.shift.seconds.0 = subst (BestWithin farthest_fine) (sym after) (fine_small try (shift_is _ _) (trial_in coarse) near) in
    subst SmallStage (sym c.about-2.ensures) (micro_fits fine.shift.seconds.0 near_fine)

pub returns-in_err-micro : goal.returns-in_err-micro
unfolding of_bits
returns-in_err-micro c =
    let try = trial_by c.args.self.now in
    let start = best_in (Some c.in_ok-fine.fine) in
    absurd (never_lost try (micro_stage c.in_ok-fine.fine.shift.seconds.0) _ (c.in_err-micro.ensures ∙ ap (λ (x : Stage). after_stage try x start) c.about-2.ensures))

pub returns : goal.returns
unfolding of_bits
returns c =
    let try = trial_by c.args.self.now in
    let coarse = c.in_ok-coarse.coarse in
    let fine = c.in_ok-fine.fine in
    let start = best_in (Some coarse) in
    let after : best_in (Some fine) ≡ after_stage try (fine_stage coarse.shift.seconds.0) start = c.in_ok-fine.ensures ∙ ap (λ (x : Stage). after_stage try x start) c.about.ensures in
    c.in_ok-micro.ensures
    ∙ ap (λ (x : Stage). after_stage try x (best_in (Some fine))) c.about-2.ensures
    ∙ all_stages try c.args.centre.0 (trial_in coarse) (trial_in fine) c.in_ok-coarse.ensures after
