-- The product is the definition's, and the cast its truncation, which is small where the shift is. Assumes nothing.
use mathlib.Core.Path.{◌≡◌, sym, ◌∙◌, subst}
use Prim.Native.Nat.{◌≤◌}
use lib.IntN.{ℤ, nat_abs}
use lib.Ieee.{of_bits}
use mir.Syntax.{w64}
use mir.ValLaws.{to_z-of_z}
use Rattle.orbit.specs.Bounds.{farthest_micros}
use Rattle.orbit.specs.Residuals.{whole_microseconds}
use Rattle.orbit.proofs.Offsets.{back}
use Rattle.orbit.proofs.Shifts.{microseconds_small}
use Rattle.orbit.proofs.residuals.microseconds_of.Goals as goal

pub invariant_of-result : goal.invariant_of-result
unfolding of_bits
invariant_of-result c =
    let shift = c.args.shift.seconds.0 in
    let whole : back c.truncated.result ≡ whole_microseconds shift = to_z-of_z w64 c.truncated.result (record { sfits = c.truncated.type_inv }) ∙ c.truncated.ensures in
    record { few = subst (λ (z : ℤ). nat_abs z ≤ farthest_micros) (sym whole) (microseconds_small shift c.args.shift.small) }

pub returns : goal.returns
unfolding of_bits
returns c = to_z-of_z w64 c.truncated.result (record { sfits = c.truncated.type_inv }) ∙ c.truncated.ensures
