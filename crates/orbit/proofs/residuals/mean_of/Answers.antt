-- The sum is std's fold of the values. Assumes nothing.
use mathlib.Core.Path.{◌≡◌}
use lib.Ieee.{add, binary64}
use Rattle.std.proofs.lemmas.Iterator.{YieldsList-from_slice}
use Rattle.std.proofs.lemmas.Iterator.Adapters.{total_from_yields_List}
use Rattle.orbit.proofs.Means.{folded, mean_is}
use Rattle.orbit.proofs.residuals.mean_of.Goals as goal

pub returns : goal.returns
returns c =
    let ys = c.args.values.now in
    let summed : c.sum.result ≡ folded ys = total_from_yields_List (add binary64) _ _ c.sum.ensures.ran (YieldsList-from_slice ys cc) in
    mean_is ys c.sum.result c.nearest.result c.requires summed c.nearest.ensures
