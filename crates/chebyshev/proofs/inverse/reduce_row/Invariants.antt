-- Before index c the row holds the reduced numbers, and from it on the numbers as they were: together the definition of the whole. Assumes nothing.
use mathlib.Core.Path.{◌≡◌}
use mathlib.Core.List.{◌++◌}
use lib.ListN.{length, take, drop}
use Rattle.chebyshev.specs.Inverse.{reduced}
use Rattle.chebyshev.proofs.inverse.reduce_row.Given as goal

abbrev pub invariant-loop-c : goal.invariant-loop-c
invariant-loop-c l = (length l.row ≡ 10) × (take l.c l.row ++ reduced l.k (drop l.c l.row) (drop l.c l.by) ≡ reduced l.k l.fn.row l.by)
