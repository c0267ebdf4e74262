-- The part that was copied is the row. Assumes nothing.
use mathlib.Core.Path.{◌∙◌}
use Rattle.orbit_abi.proofs.Tens.{part_is_row}
use Rattle.orbit_abi.proofs.answers.ten_from.Goals as goal

pub returns : goal.returns
returns c = c.copy_from_slice.ensures.after ∙ part_is_row c.args.numbers.now c.args.from c.requires
