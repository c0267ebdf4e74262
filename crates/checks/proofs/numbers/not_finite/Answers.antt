-- Exactly the numbers are finite, by the three kinds of doubles. Assumes nothing.
use mathlib.Core.Path.{◌≡◌, refl}
use mathlib.Core.Bool.{not}
use lib.Ieee.{Float, nan, inf, fin}
use Rattle.std.specs.Float.{float_is_finite}
use Rattle.checks.specs.Checks.{not_finite}
use Rattle.checks.proofs.numbers.not_finite.Goals as goal

by_kind : (x : Float) → not (float_is_finite x) ≡ not_finite x
unfolding float_is_finite not_finite
by_kind nan = refl
by_kind (inf s) = refl
by_kind (fin s m e) = refl

pub returns : goal.returns
returns c = rw c.is_finite.ensures.value (by_kind c.args.x)
