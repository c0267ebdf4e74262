-- Before index c the row holds the reduced numbers, and from it on the numbers as they were: together the definition of the whole. Assumes nothing.
use mathlib.Core.Path.{◌∙◌, sym}
use native.Mathlib.Omega.{arith}
use lib.ListN.{length-set}
use Rattle.chebyshev.proofs.Rows.{reduced-step, reduced_end}
use borrow.Author.Rules.{rules}
use Rattle.chebyshev.proofs.inverse.reduce_row.Goals as goal

pub loop-c-preserved : goal.loop-c-preserved
loop-c-preserved c = let at = c.loop-c in (simp length-set (search rules), reduced-step c.args.k c.args.by.now at.row at.c (omega arith) (omega arith) ∙ at.invariant.1)

pub returns : goal.returns
returns c = let at = c.loop-c in sym (reduced_end c.args.k c.args.by.now at.row at.c (omega arith)) ∙ at.invariant.1
