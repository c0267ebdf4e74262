-- Before row r the rows are cleared, and from it on they are as they were: together the definition of the whole. Assumes nothing.
use mathlib.Core.Path.{◌≡◌}
use mathlib.Core.List.{◌++◌}
use lib.ListN.{take, drop}
use Rattle.chebyshev.specs.Inverse.{cleared}
use Rattle.chebyshev.proofs.inverse.Column.clear_rows.Given as goal

abbrev pub invariant-loop-r : goal.invariant-loop-r
invariant-loop-r l = take l.r l.m ++ cleared l.self.number l.by l.r (drop l.r l.factors) (drop l.r l.m) ≡ cleared l.self.number l.by 0 l.factors l.fn.m
