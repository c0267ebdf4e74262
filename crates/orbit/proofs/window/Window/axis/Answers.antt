-- Place k holds what the closure answers at k. Assumes nothing.
use Prim.Native.Nat.{◌+◌, ◌*◌}
use lib.ListN.{get_or}
use lib.Ieee.{nan}
use borrow.Author.Rules.{rules}
use Rattle.checks.specs.Limits.{axes}
use Rattle.common.proofs.Made.{made_of_indices}
use Rattle.orbit.specs.Fitting.{place_of_axis}
use Rattle.orbit.proofs.window.Window.axis.Goals as goal

pub returns : goal.returns
returns c =
    let w = c.args.self.now in
    made_of_indices _ (λ k. get_or w.orbit.now.table.positions.now (axes * (w.start + k) + place_of_axis c.args.axis) nan) _ _ nan (λ i y q k. search rules) 10 c.from_fn.ensures.items
