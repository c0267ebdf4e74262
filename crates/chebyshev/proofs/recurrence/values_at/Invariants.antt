-- Below j the array holds T0 to T(j − 1), so a turn writes Tj by the recurrence, and at the end the array is T0 to T9. Assumes nothing.
use mathlib.Core.Path.{◌≡◌}
use Prim.Native.Nat.{ℕ, ◌-◌, ◌≤◌, ◌<◌}
use lib.ListN.{length, get_or}
use lib.Ieee.{nan}
use Rattle.chebyshev.specs.Recurrence.{rounded, T}
use Rattle.chebyshev.proofs.recurrence.values_at.Given as goal

abbrev pub invariant-loop-j : goal.invariant-loop-j
invariant-loop-j l = (2 ≤ l.j) × (l.j ≤ 10) × (length l.t ≡ 10) × ((k : ℕ) → k < l.j → get_or l.t k nan ≡ T rounded l.tau k)

abbrev pub decreases-loop-j : goal.decreases-loop-j
decreases-loop-j l = 10 - l.j
