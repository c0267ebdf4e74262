-- The count goes to the entry as it came: its bits read back are the count. Assumes nothing.
use mathlib.Core.Path.{ap, ◌∙◌}
use mir.Syntax.{w64}
use mir.ValLaws.{to_z-of_z}
use Rattle.float.specs.Conversions.{nearest_of}
use Rattle.orbit_abi.proofs.float_entries.orbit_nearest.Goals as goal

pub returns : goal.returns
returns c = c.nearest.ensures ∙ ap nearest_of (to_z-of_z w64 c.args.n c.ranges.n)
