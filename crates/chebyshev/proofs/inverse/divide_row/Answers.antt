-- Before the index the row holds the quotients, and from it on the numbers as they were: together the definition of the whole. Assumes nothing.
use mathlib.Core.Path.{◌∙◌, sym}
use native.Mathlib.Omega.{arith}
use lib.ListN.{length-set}
use Rattle.chebyshev.proofs.Rows.{divided-step, divided_end}
use borrow.Author.Rules.{rules}
use Rattle.chebyshev.proofs.inverse.divide_row.Goals as goal

pub loop-x-preserved : goal.loop-x-preserved
loop-x-preserved c = let at = c.loop-x in (simp length-set (search rules), divided-step c.args.p at.row at.x-index (omega arith) ∙ at.invariant.1)

pub returns : goal.returns
returns c = let at = c.loop-x in sym (divided_end c.args.p at.row at.x-index (omega arith)) ∙ at.invariant.1
