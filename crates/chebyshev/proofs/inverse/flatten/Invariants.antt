-- Below row r the hundred numbers are the matrix's, number k at row k / 10 and column k % 10. Assumes nothing.
use mathlib.Core.Path.{◌≡◌}
use Prim.Native.Nat.{ℕ, ◌*◌, ◌/◌, ◌%◌, ◌<◌}
use lib.ListN.{length, get_or}
use lib.Ieee.{nan}
use Rattle.chebyshev.specs.Inverse.{cell}
use Rattle.chebyshev.proofs.inverse.flatten.Given as goal

abbrev pub invariant-loop-r : goal.invariant-loop-r
invariant-loop-r l = (length l.numbers ≡ 100) × ((k : ℕ) → k < 10 * l.r → get_or l.numbers k nan ≡ cell l.m (k / 10) (k % 10))
