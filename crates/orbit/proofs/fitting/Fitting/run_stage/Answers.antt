-- The best so far and the trials that are left make up the whole stage. Assumes nothing.
use mathlib.Core.Path.{◌≡◌, sym, ap, ◌∙◌}
use Prim.Native.Nat.{◌+◌, ◌-◌, ◌<◌}
use native.Mathlib.Omega.{arith}
use lib.Ieee.{Float}
use Rattle.common.specs.Lists.{list_of}
use Rattle.common.specs.Search.{better_of, first_best}
use Rattle.common.proofs.Search.{search_step, search_end}
use Rattle.orbit.specs.Fit.{Best, smaller, shift_at}
use Rattle.orbit.specs.Fitting.{trial_by, best_in, candidate_of}
use Rattle.orbit.proofs.Trials.{by_candidate}
use Rattle.orbit.proofs.Updates.{at_step, by_steps}
use Rattle.orbit.proofs.fitting.Fitting.run_stage.Goals as goal
use Rattle.orbit.proofs.fitting.Fitting.run_stage.Goals.{In-loop-step}

pub loop-step-init : goal.loop-step-init
loop-step-init c =
    let stage = c.args.stage in
    let e : stage.steps - 0 ≡ stage.steps = omega arith in
    rw e (ap (first_best smaller (best_in c.args.best)) (sym (by_steps (trial_by c.args.self.now) stage)))

pub loop-step-preserved : goal.loop-step-preserved
loop-step-preserved c =
    let at = c.loop-step in
    let stage = c.args.stage in
    let try = trial_by c.args.self.now in
    let inside : at.step < stage.steps = omega arith in
    let best = best_in at.least in
    let later : best_in c.candidate-later.result ≡ candidate_of (try (shift_at stage at.step)) = c.candidate-later.ensures ∙ ap (λ (x : Float). candidate_of (try x)) c.shift_at.ensures in
    let one : best_in c.better-least.result ≡ better_of smaller best (at_step try stage at.step) = c.better-least.ensures ∙ ap (better_of smaller best) later ∙ by_candidate best (try (shift_at stage at.step)) in
    ap (λ (x : Best). first_best smaller x (list_of (at_step try stage) (stage.steps - (at.step + 1)) (at.step + 1))) one
    ∙ search_step smaller (at_step try stage) stage.steps at.step best inside
    ∙ at.invariant

pub returns : goal.returns
returns c =
    let at = c.loop-step in
    sym (search_end smaller (at_step (trial_by c.args.self.now) c.args.stage) c.args.stage.steps at.step (best_in at.least) (omega arith)) ∙ at.invariant
