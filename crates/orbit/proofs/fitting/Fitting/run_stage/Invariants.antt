-- The best so far and the trials that are left make up the whole stage. Assumes nothing.
use mathlib.Core.Path.{◌≡◌}
use Prim.Native.Nat.{◌-◌}
use Rattle.common.specs.Lists.{list_of}
use Rattle.common.specs.Search.{first_best}
use Rattle.orbit.specs.Fit.{smaller}
use Rattle.orbit.specs.Fitting.{trial_by, best_in, after_stage}
use Rattle.orbit.proofs.Updates.{at_step}
use Rattle.orbit.proofs.fitting.Fitting.run_stage.Given as goal

abbrev pub invariant-loop-step : goal.invariant-loop-step
invariant-loop-step l =
    let try = trial_by l.self in
    first_best smaller (best_in l.least) (list_of (at_step try l.stage) (l.stage.steps - l.step) l.step) ≡ after_stage try l.stage (best_in l.initial.least)
