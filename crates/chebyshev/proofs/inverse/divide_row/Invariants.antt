-- Before the index the row holds the quotients, and from it on the numbers as they were: together the definition of the whole. Assumes nothing.
use mathlib.Core.Path.{◌≡◌}
use mathlib.Core.List.{◌++◌}
use lib.ListN.{length, take, drop}
use Rattle.chebyshev.specs.Inverse.{divided}
use Rattle.chebyshev.proofs.inverse.divide_row.Given as goal

abbrev pub invariant-loop-x : goal.invariant-loop-x
invariant-loop-x l = (length l.row ≡ 10) × (take l.x-index l.row ++ divided l.p (drop l.x-index l.row) ≡ divided l.p l.fn.row)
