-- Below j the numbers have their share added, from j on they are as they were. Assumes nothing.
use mathlib.Core.Path.{◌≡◌}
use Prim.Native.Nat.{ℕ, ◌≤◌, ◌<◌}
use lib.ListN.{length, get_or}
use lib.Ieee.{nan, binary64, add, mul}
use Rattle.chebyshev.proofs.coefficients.add_scaled.Given as goal

abbrev pub invariant-loop-j : goal.invariant-loop-j
invariant-loop-j l = (length l.c ≡ 10) × ((k : ℕ) → k < l.j → get_or l.c k nan ≡ add binary64 (get_or l.fn.c k nan) (mul binary64 (get_or l.column k nan) l.x)) × ((k : ℕ) → l.j ≤ k → get_or l.c k nan ≡ get_or l.fn.c k nan)
