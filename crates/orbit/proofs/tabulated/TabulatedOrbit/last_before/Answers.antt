-- The coordinates at or before the instant lie in front, and the last of them is one before the first that is past it. Assumes nothing.
use mathlib.Core.Path.{◌∙◌}
use native.Mathlib.Omega.{arith}
use lib.Signed.{le_z}
use borrow.Author.Rules.{rules}
use Rattle.std.proofs.lemmas.List.Sorted.{IsPartitionPoint-from_clause}
use Rattle.orbit.proofs.Searches.{parted, point_is}
use Rattle.orbit.proofs.tabulated.TabulatedOrbit.last_before.Goals as goal

pub returns : goal.returns
returns c =
    let table = c.args.self.now.table in
    let ts = table.instants.now in
    let t = c.args.t.0 in
    let n = c.partition_point.result in
    let point = IsPartitionPoint-from_clause (λ x. le_z x t) ts n c.partition_point.ensures.partitioned (parted ts t table.checked.risen) (λ a r q k. search rules) in
    (omega arith, c.saturating_sub.ensures ∙ point_is ts t n (omega (arith, table.checked.enough)) c.partition_point.ensures.bound point)
