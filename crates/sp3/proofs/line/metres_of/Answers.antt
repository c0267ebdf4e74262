-- A zero is +0; a number of 13 digits is a double, and its division by 1000 is rounded once. Assumes nothing.
use mathlib.Core.Path.{◌≡◌, sym, ap, ◌∙◌}
use mathlib.Core.Bool.{Bool, true, false}
use native.Mathlib.Omega.{arith}
use lib.IntN.{pos}
use lib.Ieee.{Float, binary64, of_bits, neg, round}
use mir.Syntax.{w64}
use mir.ValLaws.{to_z_pos}
use Rattle.common.specs.Numbers.{thousand}
use Rattle.common.specs.Rounded.{◌⊘◌}
use Rattle.float.specs.Conversions.{nearest_of}
use Rattle.sp3.specs.Columns.{steps_in_metre, metres_of}
use Rattle.sp3.proofs.Values.{divided_once, divided-minus, metres_zero, metres_other}
use Rattle.sp3.proofs.line.metres_of.Goals as goal
use Rattle.sp3.proofs.line.metres_of.Goals.{After-nearest-x}

pub returns-then-n-eq0 : goal.returns-then-n-eq0
unfolding of_bits
returns-then-n-eq0 c = sym (metres_zero c.args.n c.if-n-eq0.true)

pub returns-then-n : goal.returns-then-n
unfolding of_bits
returns-then-n c =
    let own : c.nearest-x.result ≡ nearest_of (pos c.args.n.digits) = c.nearest-x.ensures ∙ ap nearest_of (to_z_pos w64 c.args.n.digits (omega (arith, c.requires))) in
    let signed : (b : Bool) → c.args.n.negative ≡ b → round binary64 b c.args.n.digits steps_in_metre ≡ metres_of c.args.n =
    λ b. λ e.
    let n = c.args.n in
    sym (metres_other n c.if-n-eq0.false ∙ ap (λ (s : Bool). round binary64 s n.digits steps_in_metre) e) in
    ap (λ (v : Float). neg (v ⊘ thousand)) own ∙ divided-minus c.args.n.digits c.requires ∙ signed true c.if-n.true

pub returns-else-n : goal.returns-else-n
unfolding of_bits
returns-else-n c =
    let own : c.nearest-x.result ≡ nearest_of (pos c.args.n.digits) = c.nearest-x.ensures ∙ ap nearest_of (to_z_pos w64 c.args.n.digits (omega (arith, c.requires))) in
    let signed : (b : Bool) → c.args.n.negative ≡ b → round binary64 b c.args.n.digits steps_in_metre ≡ metres_of c.args.n =
    λ b. λ e.
    let n = c.args.n in
    sym (metres_other n c.if-n-eq0.false ∙ ap (λ (s : Bool). round binary64 s n.digits steps_in_metre) e) in
    ap (λ (v : Float). v ⊘ thousand) own ∙ divided_once c.args.n.digits c.requires ∙ signed false c.if-n.false
