-- A sum of doubles as std folds it, from −0.0, and the mean from it. Assumes nothing.
use mathlib.Core.Path.{◌≡◌, refl, sym, ap, ap₂, ◌∙◌}
use mathlib.Core.List.{List, [], ◌∷◌, map}
use Prim.Native.Nat.{ℕ, ◌≤◌}
use native.Mathlib.Omega.{arith}
use lib.ListN.{length, length-map}
use lib.Ieee.{Float, binary64, add, neg, of_bits}
use mir.Syntax.{w64}
use mir.Val.{to_z}
use mir.ValLaws.{to_z_pos}
use Rattle.std.specs.Prelude.{fold}
use Rattle.common.specs.Numbers.{minus_zero}
use Rattle.common.specs.Rounded.{◌⊖◌, ◌⊗◌, ◌⊘◌}
use Rattle.common.specs.Sums.{sum_from}
use Rattle.checks.specs.Limits.{most_samples}
use Rattle.float.specs.Conversions.{nearest_of}
use Rattle.orbit.specs.Residuals.{mean_over, squared_deviation}

-- the sum by std's fold
abbrev pub folded : List Float → Float
folded ys = fold (λ a x. add binary64 a x) (neg (of_bits binary64 0)) ys

summed : (a : Float) (ys : List Float) → fold (λ a x. add binary64 a x) a ys ≡ sum_from a ys
unfolding sum_from
summed a [] = refl
summed a (y ∷ ys) = summed (add binary64 a y) ys

from_minus_zero : (ys : List Float) → folded ys ≡ sum_from minus_zero ys
unfolding neg of_bits
from_minus_zero ys = summed minus_zero ys

-- the mean of values by their sum and their number, as a double
pub mean_is : (ys : List Float) (s n : Float) → length ys ≤ most_samples → s ≡ folded ys → n ≡ nearest_of (to_z w64 (length ys)) → s ⊘ n ≡ mean_over ys
unfolding mean_over
mean_is ys s n few h e = ap₂ (λ (x y : Float). x ⊘ y) (h ∙ from_minus_zero ys) (e ∙ ap nearest_of (to_z_pos w64 (length ys) (omega arith)))

-- the squares of what values are off a number
squares : (m : Float) (ys : List Float) → map (λ y. (y ⊖ m) ⊗ (y ⊖ m)) ys ≡ map (squared_deviation m) ys
unfolding squared_deviation
squares m ys = refl

pub mean_square_is : (m : Float) (ys : List Float) (s n : Float) → length ys ≤ most_samples → s ≡ folded (map (λ y. (y ⊖ m) ⊗ (y ⊖ m)) ys) → n ≡ nearest_of (to_z w64 (length ys))
    → s ⊘ n ≡ mean_over (map (squared_deviation m) ys)
mean_square_is m ys s n few h e =
    let zs = map (squared_deviation m) ys in
    let many : length zs ≡ length ys = length-map ys (squared_deviation m) in
    mean_is zs s n (omega arith) (h ∙ ap folded (squares m ys)) (e ∙ ap (λ (k : ℕ). nearest_of (to_z w64 k)) (sym many))
