-- Place k holds what the closure answers at k. Assumes nothing.
use Prim.Native.Nat.{◌+◌}
use lib.IntN.{pos}
use lib.ListN.{get_or}
use lib.Ieee.{nan}
use borrow.Author.Rules.{rules}
use Rattle.orbit.specs.Window.{seconds_of}
use Rattle.common.proofs.Made.{made_of_indices}
use Rattle.orbit.proofs.window.Window.seconds.Goals as goal

pub returns : goal.returns
returns c =
    let w = c.args.self.now in
    made_of_indices _ (λ k. seconds_of (get_or w.orbit.now.table.instants.now (w.start + k) (pos 0))) _ _ nan (λ i y q k. search rules) 10 c.from_fn.ensures.items
