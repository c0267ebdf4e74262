-- The inverse's result, told to C. Assumes nothing.
use mathlib.Core.Path.{ap, ◌∙◌}
use Rattle.common.specs.Outcome.{mapped}
use Rattle.chebyshev.specs.Inverse.{Matrix, inverted, flat}
use Rattle.orbit_abi.specs.Areas.{rows_in}
use Rattle.orbit_abi.proofs.Told.{told_mapped}
use Rattle.orbit_abi.proofs.chebyshev_entries.orbit_invert_matrix_10.Goals as goal

pub returns : goal.returns
returns c =
    let e = c.invert_matrix_10-found.ensures ∙ ap (λ (m : Matrix). mapped flat (inverted m)) c.rows_of.ensures in
    let here = told_mapped flat c.put.new.place c.args.inverse.now _ (λ b h. h) c.invert_matrix_10-found.result (inverted (rows_in c.args.rows.now)) e c.put.ensures.place_after in
    (c.put.ensures.value ∙ here.0, here.1)
