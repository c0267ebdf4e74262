-- Below k the rows are those of the times. Assumes nothing.
use mathlib.Core.Path.{◌≡◌}
use mathlib.Core.List.{[]}
use Prim.Native.Nat.{ℕ, ◌<◌}
use lib.ListN.{length, get_or}
use lib.Ieee.{nan}
use Rattle.chebyshev.specs.Recurrence.{rounded, polynomials}
use Rattle.orbit.specs.Window.{first_time, last_time, tau_of}
use Rattle.orbit.proofs.window.nodes_of.Given as goal

abbrev pub invariant-loop-k : goal.invariant-loop-k
invariant-loop-k l =
    let t = l.fn.t in
    record {
      ten : length l.rows ≡ 10;
      written : (n : ℕ) → n < l.k → get_or l.rows n [] ≡ polynomials rounded (tau_of (first_time t) (last_time t) (get_or t n nan));
    }
