-- The search from the k-th offset on ends where the whole search does. Assumes nothing.
use mathlib.Core.Path.{◌≡◌, sym, ap, ◌∙◌}
use native.Mathlib.Omega.{arith}
use lib.IntN.{ℤ}
use Rattle.common.specs.Search.{better_of}
use Rattle.common.proofs.Search.{search_step, search_end}
use Rattle.orbit.specs.Closest.{nearer, ranged, ranged_at}
use Rattle.orbit.proofs.search.Search.seek_least_range.Goals as goal

pub loop-k-preserved : goal.loop-k-preserved
loop-k-preserved c =
    let a = c.args in
    let s = a.self.now in
    let at = c.loop-k in
    let ranged_at_k = ranged_at s.orbit.tolerance s.orbit.table.instants.now s.orbit.table.positions.now s.observer s.around.instant.0 a.offsets in
    let turned : c.nearer_at-best.result ≡ better_of nearer at.best (ranged_at_k at.k) =
    c.nearer_at-best.ensures ∙ ap (λ (z : ℤ). better_of nearer at.best (ranged s.orbit.tolerance s.orbit.table.instants.now s.orbit.table.positions.now s.observer s.around.instant.0 z)) c.offset_at.ensures in
    rw turned (search_step nearer ranged_at_k a.offsets.count at.k at.best (omega arith) ∙ at.invariant)

pub returns : goal.returns
returns c =
    let a = c.args in
    let s = a.self.now in
    let at = c.loop-k in
    sym (search_end nearer (ranged_at s.orbit.tolerance s.orbit.table.instants.now s.orbit.table.positions.now s.observer s.around.instant.0 a.offsets) a.offsets.count at.k at.best (omega arith)) ∙ at.invariant
