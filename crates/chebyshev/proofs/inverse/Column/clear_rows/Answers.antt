-- Before row r the rows are cleared, and from it on they are as they were: together the definition of the whole. Assumes nothing.
use mathlib.Core.Bool.{cond}
use lib.Dec.{eqb}
use lib.Ieee.{nan}
use mathlib.Core.Path.{◌≡◌, ◌∙◌, sym}
use mathlib.Core.List.{[]}
use native.Mathlib.Omega.{arith}
use lib.ListN.{get_or, set}
use Rattle.chebyshev.specs.Inverse.{reduced}
use Rattle.chebyshev.proofs.Rows.{cleared-step, cleared_end, cleared-other, cleared-same}
use Rattle.chebyshev.proofs.inverse.Column.clear_rows.Goals as goal
use Rattle.chebyshev.proofs.inverse.Column.clear_rows.Goals.{then-r-self, else-r-self}

pub loop-r-preserved : goal.loop-r-preserved
loop-r-preserved c =
    let at = c.loop-r in
    let i = c.args.self.number in
    let factors = c.args.factors.now in
    let by = get_or c.args.m.now i [] in
    let e : c.if-r-self.m ≡ set at.m at.r (cond (eqb at.r i) (get_or at.m at.r []) (reduced (get_or factors at.r nan) (get_or at.m at.r []) by)) = elim c.if-r-self.branch [
      | then-r-self w ↦ cleared-other i by factors at.m c.if-r-self.m at.r w.reduce_row.new.row w.if-r-self.true w.reduce_row.ensures w.m-is
      | else-r-self w ↦ cleared-same i by factors at.m c.if-r-self.m at.r w.if-r-self.false w.m-is
    ] in
    rw e (cleared-step i by factors at.m at.r (omega arith) ∙ at.invariant)

pub returns : goal.returns
returns c =
    let at = c.loop-r in
    sym (cleared_end c.args.self.number (get_or c.args.m.now c.args.self.number []) c.args.factors.now at.m at.r (omega arith)) ∙ at.invariant
