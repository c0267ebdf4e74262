-- As for the values: below j the array holds T'0 to T'(j − 1), and a turn writes T'j by the differentiated recurrence. Assumes nothing.
use mathlib.Core.Path.{◌≡◌}
use Prim.Native.Nat.{ℕ, ◌-◌, ◌≤◌, ◌<◌}
use lib.ListN.{length, get_or}
use lib.Ieee.{nan}
use Rattle.chebyshev.specs.Recurrence.{rounded, T', polynomials}
use Rattle.chebyshev.proofs.recurrence.slopes_from.Given as goal

abbrev pub invariant-loop-j : goal.invariant-loop-j
invariant-loop-j l = (2 ≤ l.j) × (l.j ≤ 10) × (length l.dt ≡ 10) × (l.t ≡ polynomials rounded l.tau) × ((k : ℕ) → k < l.j → get_or l.dt k nan ≡ T' rounded l.tau k)

abbrev pub decreases-loop-j : goal.decreases-loop-j
decreases-loop-j l = 10 - l.j
