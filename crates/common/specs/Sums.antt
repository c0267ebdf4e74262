-- Sums of doubles, one after the other, each addition rounded once.
use Rattle.std.specs.Prelude.{List, [], ◌∷◌, Float}
use Rattle.common.specs.Rounded.{◌⊕◌}

-- the sum in order, onto a: ((a + y0) + y1) + ..
unfoldable pub sum_from : Float → List Float → Float
sum_from a [] = a
sum_from a (y ∷ ys) = sum_from (a ⊕ y) ys
