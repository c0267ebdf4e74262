-- By the sign: the magnitude is rounded, and a negative number's double is that of its magnitude, negated. Assumes nothing.
use Rattle.std.proofs.Common.{ℕ, true, false, pos, nat_abs, ap, ◌∙◌, w64}
use mir.ValLaws.{to_z-of_z}
use lib.Ieee.{binary64, of_int, neg}
use Rattle.float.proofs.Integers.{read_back, of_int_up, of_int_down}
use Rattle.float.proofs.conversions.nearest.Goals as goal

pub returns-then-n-ge0 : goal.returns-then-n-ge0
returns-then-n-ge0 c =
    c.nearest_unsigned-magnitude.ensures ∙ ap (λ (x : ℕ). of_int binary64 (pos x)) (c.unsigned_abs.ensures.value ∙ ap nat_abs (to_z-of_z w64 c.args.n c.ranges.n))
    ∙ of_int_up c.args.n (read_back c.args.n true c.ranges.n c.if-n-ge0.true)

pub returns-else-n-ge0 : goal.returns-else-n-ge0
returns-else-n-ge0 c =
    ap neg (c.nearest_unsigned-magnitude.ensures ∙ ap (λ (x : ℕ). of_int binary64 (pos x)) (c.unsigned_abs.ensures.value ∙ ap nat_abs (to_z-of_z w64 c.args.n c.ranges.n)))
    ∙ of_int_down c.args.n (read_back c.args.n false c.ranges.n c.if-n-ge0.false)
