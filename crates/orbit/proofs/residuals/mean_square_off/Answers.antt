-- The sum is std's fold of the squares. Assumes nothing.
use borrow.Author.Rules.{rules}
use mathlib.Core.Path.{◌≡◌}
use mathlib.Core.List.{map}
use lib.Ieee.{Float, add, binary64}
use Rattle.std.proofs.lemmas.Iterator.{YieldsList-from_slice, YieldsList-from_map}
use Rattle.std.proofs.lemmas.Iterator.Adapters.{total_from_yields_List}
use Rattle.common.specs.Rounded.{◌⊖◌, ◌⊗◌}
use Rattle.orbit.proofs.Means.{folded, mean_square_is}
use Rattle.orbit.proofs.residuals.mean_square_off.Goals as goal

pub returns : goal.returns
returns c =
    let ys = c.args.values.now in
    let m = c.args.mean in
    let h = λ (y : Float). (y ⊖ m) ⊗ (y ⊖ m) in
    let summed : c.sum.result ≡ folded (map h ys) = total_from_yields_List (add binary64) _ _ c.sum.ensures.ran (YieldsList-from_map _ h {f = c.map-squares.result.f} (YieldsList-from_slice ys (cc)) (cc) (λ x r q k. search rules)) in
    mean_square_is m ys c.sum.result c.nearest.result c.requires summed c.nearest.ensures
