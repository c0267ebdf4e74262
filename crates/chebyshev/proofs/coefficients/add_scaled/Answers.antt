-- Every number has its share added. Assumes nothing.
use native.Mathlib.Omega.{arith}
use lib.ListN.{get_or}
use lib.Ieee.{nan, binary64, add, mul}
use Rattle.common.proofs.Filled.{filled}
use Rattle.chebyshev.proofs.coefficients.add_scaled.Goals as goal

pub returns : goal.returns
returns c =
    let at = c.loop-j in
    let args = c.args in
    filled (λ k. add binary64 (get_or args.c.now k nan) (mul binary64 (get_or args.column.now k nan) args.x)) 10 nan at.c at.invariant.0 (λ k h. at.invariant.1 k (omega arith))
