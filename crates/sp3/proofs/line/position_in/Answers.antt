-- By the first coordinate that is no number; where all are, each has 13 digits at most. Assumes nothing.
use Rattle.std.proofs.Common.{◌≡◌, ℕ, List, Option, refl, sym, ap, ◌∙◌, arith}
use Rattle.decimal.specs.declared.reading.Number.{Number}
use Rattle.sp3.specs.Columns.{x_in, y_in, z_in, position_by, position_in}
use Rattle.sp3.proofs.Values.{coordinate_small}
use Rattle.sp3.proofs.line.position_in.Goals as goal

by_fields : (l : List ℕ) {f g h : Option Number} → x_in l ≡ f → y_in l ≡ g → z_in l ≡ h → position_by f g h ≡ position_in l
unfolding position_in
by_fields l {f} {g} {h} p q r =
    sym
    (ap (λ (u : Option Number). position_by u (y_in l) (z_in l)) p
    ∙ ap (λ (u : Option Number). position_by f u (z_in l)) q
    ∙ ap (position_by f g) r)

pub returns-in_err-x : goal.returns-in_err-x
returns-in_err-x c = rw c.from_residual.ensures (by_fields c.args.line.now (sym c.in_err-x.ensures) refl refl)

pub returns-in_err-y : goal.returns-in_err-y
returns-in_err-y c = rw c.from_residual-in_err-y.ensures (by_fields c.args.line.now (sym c.in_ok-x.ensures) (sym c.in_err-y.ensures) refl)

pub returns-in_err-z : goal.returns-in_err-z
returns-in_err-z c =
    rw c.from_residual-in_err-z.ensures (by_fields c.args.line.now (sym c.in_ok-x.ensures) (sym c.in_ok-y.ensures) (sym c.in_err-z.ensures))

pub position_of-requires : goal.position_of-requires
position_of-requires c =
    let l = c.args.line.now in (
      coordinate_small 5 12 18 l c.in_ok-x.x (omega arith) (omega arith) refl (sym c.in_ok-x.ensures),
      coordinate_small 19 26 32 l c.in_ok-y.y (omega arith) (omega arith) refl (sym c.in_ok-y.ensures),
      coordinate_small 33 40 46 l c.in_ok-z.z (omega arith) (omega arith) refl (sym c.in_ok-z.ensures),
    )

pub returns : goal.returns
returns c = c.position_of.ensures ∙ by_fields c.args.line.now (sym c.in_ok-x.ensures) (sym c.in_ok-y.ensures) (sym c.in_ok-z.ensures)
