-- One sample more, and where the samples end. Assumes nothing.
use mathlib.Core.Path.{sym, ap, ◌∙◌, subst}
use Prim.Native.Nat.{◌+◌, ◌-◌, ◌<◌}
use native.Mathlib.Omega.{arith}
use lib.ListN.{length}
use Rattle.common.proofs.Search.{search_step, search_end}
use Rattle.samples.specs.declared.approach.LeastSlope.{LeastSlope}
use Rattle.samples.specs.Approach.{sloped, steeper}
use Rattle.samples.proofs.Slopes.{rest, middle_in}
use Rattle.samples.proofs.approach.least_slope.Goals as goal

pub loop-i-preserved : goal.loop-i-preserved
loop-i-preserved c =
    let at = c.loop-i in
    let ts = c.args.samples.now.instants.now in
    let fs = c.args.samples.now.frequencies.now in
    let w = c.steeper_at-best in
    let better = steeper c.args.floor ts in (
      omega arith,
      subst (λ (x : LeastSlope). x.middle < length ts) (sym w.ensures)
          (middle_in (better (sloped ts fs at.i) at.best) (sloped ts fs at.i) at.best (length ts) (omega arith) at.invariant.1),
      ap (rest c.args.floor ts fs (at.i + 1)) w.ensures ∙ search_step better (sloped ts fs) (length ts - 1) at.i at.best (omega arith) ∙ at.invariant.2,
    )

pub returns-clause-value : goal.returns-clause-value
returns-clause-value c =
    let at = c.loop-i in
    let ts = c.args.samples.now.instants.now in
    sym (search_end (steeper c.args.floor ts) (sloped ts c.args.samples.now.frequencies.now) (length ts - 1) at.i at.best (omega arith)) ∙ at.invariant.2
