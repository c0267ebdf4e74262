-- The fields are the double's own, so the whole part is that of its magnitude; the sign and the ends of the range give the rest. Assumes nothing.
use Rattle.std.proofs.Common.{◌≡◌, ℕ, Bool, false, not, ◌-◌, ◌<◌, min, T, ℤ, pos, negsuc, ◌-ℤ◌, neg_ℤ, sym, ap, ◌∙◌, subst, arith, w64, SFits, to_z, of_z}
use mir.ValLaws.{to_z-of_z, to_z_pos}
use lib.Ieee.{Float, is_nan}
use Rattle.float.proofs.WholeParts.{cut_up_is, cut_down_is, cut_nan, minus-one-less, negated}
use Rattle.float.proofs.conversions.truncated.Goals as goal
use Rattle.float.proofs.conversions.truncated.Goals.{Else-m-eq0}

number : (x : Float) {b : Bool} → b ≡ is_nan x → b ≡ false → T (not (is_nan x))
number x said e = subst (λ (v : Bool). T (not v)) (sym (sym said ∙ e)) tt

less : (m : ℕ) → m < 9223372036854775808 → m ≡ min m 9223372036854775807
less m h = omega arith

stepped : (c : Else-m-eq0) → negsuc 0 -ℤ to_z w64 (c.whole_part-m.result - 1) ≡ negsuc (c.whole_part-m.result - 1)
stepped c =
    let m = c.whole_part-m.result in
    ap (λ (z : ℤ). negsuc 0 -ℤ z) (to_z_pos w64 (m - 1) (omega arith)) ∙ minus-one-less (m - 1)

pub returns-then-is_nan : goal.returns-then-is_nan
returns-then-is_nan c = cut_nan c.args.x (sym c.is_nan.ensures.value ∙ c.if-is_nan.true)

pub float_to_bits-b : goal.float_to_bits-b
float_to_bits-b c = number c.args.x c.is_nan.ensures.value c.if-is_nan.false

pub returns-then-m-lt9223372036854775808 : goal.returns-then-m-lt9223372036854775808
returns-then-m-lt9223372036854775808 c =
    let m = c.whole_part-m.result in
    to_z_pos w64 m c.if-m-lt9223372036854775808.true ∙ ap pos (less m c.if-m-lt9223372036854775808.true)
    ∙ sym (cut_up_is c.args.x m (subst T (sym c.well_formed.0.1) tt) (number c.args.x c.is_nan.ensures.value c.if-is_nan.false) c.if-b-lt9223372036854775808.true c.whole_part-m.ensures.1)

pub returns-then-b-lt9223372036854775808 : goal.returns-then-b-lt9223372036854775808
returns-then-b-lt9223372036854775808 c =
    let m = c.whole_part-m.result in
    let e : 9223372036854775807 ≡ min m 9223372036854775807 = omega arith in
    ap pos e ∙ sym (cut_up_is c.args.x m (subst T (sym c.well_formed.0.1) tt) (number c.args.x c.is_nan.ensures.value c.if-is_nan.false) c.if-b-lt9223372036854775808.true c.whole_part-m.ensures.1)

pub returns-then-m-eq0 : goal.returns-then-m-eq0
returns-then-m-eq0 c =
    let m = c.whole_part-m.result in
    ap (λ (y : ℕ). neg_ℤ (pos y)) (sym c.if-m-eq0.true)
    ∙ sym (cut_down_is c.args.x m (subst T (sym c.well_formed.0.1) tt) (number c.args.x c.is_nan.ensures.value c.if-is_nan.false) c.if-b-lt9223372036854775808.false c.whole_part-m.ensures.1)

pub overflow_sub-result-2 : goal.overflow_sub-result-2
overflow_sub-result-2 c = subst (SFits w64) (sym (stepped c)) (record { sfits = omega arith })

pub returns : goal.returns
returns c =
    let m = c.whole_part-m.result in
    ap (λ (z : ℤ). to_z w64 (of_z w64 z)) (stepped c) ∙ to_z-of_z w64 (negsuc (m - 1)) (record { sfits = omega arith }) ∙ negated m c.if-m-eq0.false
    ∙ sym (cut_down_is c.args.x m (subst T (sym c.well_formed.0.1) tt) (number c.args.x c.is_nan.ensures.value c.if-is_nan.false) c.if-b-lt9223372036854775808.false c.whole_part-m.ensures.1)
