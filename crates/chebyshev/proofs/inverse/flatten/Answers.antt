-- Below row r the hundred numbers are the matrix's, number k at row k / 10 and column k % 10. Assumes nothing.
use Prim.Native.Nat.{◌/◌, ◌%◌}
use native.Mathlib.Omega.{arith}
use lib.Ieee.{nan}
use Rattle.chebyshev.specs.Inverse.{cell}
use Rattle.common.proofs.Filled.{filled}
use Rattle.chebyshev.proofs.inverse.flatten.Goals as goal

pub returns : goal.returns
returns c =
    let at = c.loop-r in
    filled (λ n. cell c.args.m.now (n / 10) (n % 10)) 100 nan at.numbers at.invariant.0 (λ k h. at.invariant.1 k (omega arith))
