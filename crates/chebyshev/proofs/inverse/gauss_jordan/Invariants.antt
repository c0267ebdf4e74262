-- The columns from i on make, of the matrices as they are, the outcome of the whole; so a refused column is the refusal, and after the last the
-- second matrix is the inverse. Assumes nothing.
use Prim.Native.Nat.{◌≤◌, ◌-◌}
use mathlib.Core.Path.{◌≡◌}
use Rattle.chebyshev.specs.Inverse.{columns_from, inverted}
use Rattle.chebyshev.proofs.inverse.gauss_jordan.Given as goal

abbrev pub invariant-loop-number : goal.invariant-loop-number
invariant-loop-number l = (l.number ≤ 10) × (columns_from (10 - l.number) l.number l.t l.v ≡ inverted l.initial.t)

abbrev pub decreases-loop-number : goal.decreases-loop-number
decreases-loop-number l = 10 - l.number
