-- The search from the k-th offset on ends where the whole search does. Assumes nothing.
use mathlib.Core.Path.{◌≡◌}
use Prim.Native.Nat.{◌-◌}
use Rattle.common.specs.Lists.{list_of}
use Rattle.common.specs.Search.{first_best}
use Rattle.orbit.specs.Closest.{nearer, ranged_at}
use Rattle.orbit.proofs.search.Search.seek_least_range.Given as goal

abbrev pub invariant-loop-k : goal.invariant-loop-k
invariant-loop-k l =
    let s = l.fn.self in
    let at = ranged_at s.orbit.tolerance s.orbit.table.instants.now s.orbit.table.positions.now s.observer s.around.instant.0 l.fn.offsets in
    let n = l.fn.offsets.count in
    first_best nearer l.best (list_of at (n - l.k) l.k) ≡ first_best nearer l.fn.start (list_of at n 0)
