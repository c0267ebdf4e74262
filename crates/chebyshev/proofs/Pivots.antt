-- The law of the pivot: of the diagonal's row and the later ones it is the first of the greatest magnitude, since magnitudes compare as the search for the first of the best asks; so a NaN on the
-- diagonal stays, and one below it is never taken. And one step of the code's search. Assumes nothing.
use mathlib.Core.Path.{◌≡◌, sym, ap, ap₂, ◌∙◌, subst}
use mathlib.Core.Logic.{◌≢◌}
use mathlib.Core.Bool.{Bool, false, cond}
use Prim.Native.Nat.{ℕ, ◌+◌, ◌-◌, ◌<◌}
use lib.Dec.{T}
use lib.Ieee.{Float, nan, lt}
use Rattle.float.specs.Signs.{magnitude_of}
use Rattle.common.specs.Lists.{list_of}
use Rattle.common.specs.Search.{first_best, Searched, kept, won}
use Rattle.float.proofs.Comparison.{number, lt_left, lt_right}
use Rattle.common.proofs.Search.{first_of_best, search_step}
use Rattle.float.proofs.Leasts.{greatest_first}
use Rattle.chebyshev.specs.Inverse.{Matrix, order, cell, greater, pivot_row, least_pivot, too_small}

-- the diagonal's row where no later row has a greater magnitude in the column, else the first of the greatest
pub first_pivot : (i : ℕ) (m : Matrix) → Searched (greater i m) i (λ r. r) (i + 1) order (pivot_row i m)
first_pivot i m = first_of_best (greater i m) (greatest_first (λ r. magnitude_of (cell m r i))) i (λ r. r) (i + 1) order

-- a NaN's magnitude is no number
no_number : (x : Float) → x ≡ nan → T (number (magnitude_of x)) → ⊥
unfolding magnitude_of
no_number x e h = subst (λ (y : Float). T (number (magnitude_of y))) e h

-- "A NaN on the diagonal stays pivot and is not refused"
pub nan_stays : (i : ℕ) (m : Matrix) → cell m i i ≡ nan → (pivot_row i m ≡ i) × (too_small i m ≡ false)
unfolding magnitude_of lt
nan_stays i m e = let p = stays (first_pivot i m) in (p, ap (λ (r : ℕ). lt (magnitude_of (cell m r i)) least_pivot) p ∙ ap (λ (x : Float). lt (magnitude_of x) least_pivot) e)
  where
    stays : Searched (greater i m) i (λ r. r) (i + 1) order (pivot_row i m) → pivot_row i m ≡ i
    stays (kept p none) = p
    stays (won r p f) = absurd (no_number (cell m i i) e (lt_left (magnitude_of (cell m i i)) (magnitude_of (cell m r i)) f.beats))

-- "a NaN below it never becomes pivot"
pub nan_never : (i : ℕ) (m : Matrix) → pivot_row i m ≢ i → cell m (pivot_row i m) i ≢ nan
nan_never i m ne e = never (first_pivot i m)
  where
    never : Searched (greater i m) i (λ r. r) (i + 1) order (pivot_row i m) → ⊥
    never (kept p none) = ne p
    never (won r p f) = no_number (cell m r i) (ap (λ (s : ℕ). cell m s i) (sym p) ∙ e) (lt_right (magnitude_of (cell m i i)) (magnitude_of (cell m r i)) f.beats)

-- one row more of the search, by the two magnitudes that the code compares
pub pivot_step : (i : ℕ) (m : Matrix) (r best : ℕ) (most x : Float) (b : Bool) → r < 10 → most ≡ magnitude_of (cell m best i) → x ≡ magnitude_of (cell m r i) → lt most x ≡ b
    → first_best (greater i m) (cond b r best) (list_of (λ s. s) (10 - (r + 1)) (r + 1)) ≡ first_best (greater i m) best (list_of (λ s. s) (10 - r) r)
pivot_step i m r best most x b h p q t =
    ap (λ (y : Bool). first_best (greater i m) (cond y r best) (list_of (λ s. s) (10 - (r + 1)) (r + 1))) (sym t ∙ ap₂ lt p q) ∙ search_step (greater i m) (λ s. s) 10 r best h
