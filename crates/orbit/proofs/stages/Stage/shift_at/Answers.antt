-- A shift of a small stage is small. Assumes nothing.
use mathlib.Core.Path.{◌≡◌, ap, ◌∙◌}
use Prim.Native.Nat.{◌+◌}
use native.Mathlib.Omega.{arith}
use lib.IntN.{pos}
use mir.Syntax.{w64}
use mir.ValLaws.{to_z_pos}
use Rattle.float.specs.Conversions.{nearest_of}
use Rattle.orbit.specs.Bounds.{farthest_start, farthest_shift, most_steps}
use Rattle.orbit.specs.Fit.{shift_at}
use Rattle.orbit.proofs.Shifts.{stage_within, weaken}
use Rattle.orbit.proofs.stages.Stage.shift_at.Goals as goal

pub invariant_of-result : goal.invariant_of-result
invariant_of-result c =
    let stage = c.args.self.now in
    let step = c.args.step in
    let h = c.requires.0 in
    let counted : c.nearest.result ≡ nearest_of (pos step) = c.nearest.ensures ∙ ap nearest_of (to_z_pos w64 step (omega (arith, c.requires.1))) in
    record { small = rw counted (weaken (farthest_start + most_steps) farthest_shift (shift_at stage step) (omega arith) (stage_within farthest_start stage step (omega arith) c.requires.1 h.start h.increment)) }
