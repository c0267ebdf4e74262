-- An offset without a position has no range, and does not win. Assumes nothing.
use mathlib.Core.Path.{ap, ◌∙◌}
use Rattle.orbit.specs.Propagation.{propagated}
use Rattle.orbit.proofs.Ranges.{nearer-refused}
use Rattle.orbit.proofs.search.Search.nearer_at.Goals as goal

pub returns-in_default : goal.returns-in_default
returns-in_default c =
    let a = c.args in
    let s = a.self.now in
    nearer-refused s.observer c.propagate.result _ c.in_default.field-0 a.offset.seconds a.best (c.propagate.ensures ∙ ap (propagated s.orbit.tolerance s.orbit.table.instants.now s.orbit.table.positions.now) c.moved_by_seconds.ensures) c.in_default.is
