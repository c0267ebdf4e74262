-- The rows are those of the ten times. Assumes nothing.
use mathlib.Core.List.{[]}
use native.Mathlib.Omega.{arith}
use lib.ListN.{get_or}
use lib.Ieee.{nan}
use Rattle.common.proofs.Filled.{filled}
use Rattle.chebyshev.specs.Recurrence.{rounded, polynomials}
use Rattle.orbit.specs.Window.{first_time, last_time, tau_of}
use Rattle.orbit.proofs.window.nodes_of.Goals as goal

pub returns : goal.returns
returns c =
    let at = c.loop-k in
    let t = c.args.t in
    filled (λ n. polynomials rounded (tau_of (first_time t) (last_time t) (get_or t n nan))) 10 [] at.rows at.invariant.ten (λ n h. at.invariant.written n (omega arith))
