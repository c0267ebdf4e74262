-- The stage about the centre, and where the centre is far the stage about 0 after it, search the whole coarse list. Assumes nothing.
use mathlib.Core.Path.{◌≡◌, sym, ap, ap₂, ◌∙◌, subst}
use native.Mathlib.Omega.{arith}
use lib.Ieee.{lt, of_bits}
use Rattle.common.specs.Numbers.{nought, five}
use Rattle.orbit.specs.declared.stages.Stage.{Stage}
use Rattle.orbit.specs.Bounds.{SmallStage}
use Rattle.orbit.specs.Fit.{none_yet, coarse_stage}
use Rattle.orbit.specs.Fitting.{trial_by, best_in, after_stage}
use Rattle.orbit.proofs.Finish.{coarse-fits, coarse-one, coarse-two}
use Rattle.orbit.proofs.fitting.Fitting.coarse.Goals as goal

pub run_stage-best-requires : goal.run_stage-best-requires
unfolding of_bits
run_stage-best-requires c = subst SmallStage (sym c.about.ensures) (coarse-fits c.args.centre.0 c.requires)

pub run_stage-requires : goal.run_stage-requires
unfolding of_bits
run_stage-requires c = subst SmallStage (sym c.about-then-magnitude.ensures) (coarse-fits nought (omega arith))

pub returns-then-magnitude : goal.returns-then-magnitude
unfolding of_bits
returns-then-magnitude c =
    let try = trial_by c.args.self.now in
    let first : best_in c.run_stage-best.result ≡ after_stage try (coarse_stage c.args.centre.0) none_yet = c.run_stage-best.ensures ∙ ap (λ (x : Stage). after_stage try x none_yet) c.about.ensures in
    c.run_stage.ensures
    ∙ ap₂ (after_stage try) c.about-then-magnitude.ensures first
    ∙ coarse-two try c.args.centre.0 (ap (lt five) (sym c.magnitude.ensures) ∙ c.if-magnitude.true)

pub returns-else-magnitude : goal.returns-else-magnitude
unfolding of_bits
returns-else-magnitude c =
    let try = trial_by c.args.self.now in
    c.run_stage-best.ensures
    ∙ ap (λ (x : Stage). after_stage try x none_yet) c.about.ensures
    ∙ coarse-one try c.args.centre.0 (ap (lt five) (sym c.magnitude.ensures) ∙ c.if-magnitude.false)
