-- The recurrences at an index as the code writes it, j − 1 and j − 2 for a j of 2 or more, and one term of a sum. Assumes nothing.
use mathlib.Core.Path.{◌≡◌, refl}
use mathlib.Core.List.{List, [], ◌∷◌}
use Prim.Native.Nat.{ℕ, zero, suc, ◌+◌, ◌-◌, ◌≤◌, ◌<◌}
use native.Mathlib.Numerals.{add-one}
use native.Mathlib.Omega.{arith}
use lib.ListN.{length, get_or, drop, drop_of_length-le}
use lib.Seq.{drop-cons}
use lib.Ieee.{Float}
use Rattle.std.specs.List.{fold, zip}
use Rattle.chebyshev.specs.Recurrence.{Arithmetic, T, T', weighted_from, rounded}

pub T-step : {A : Type 0} (a : Arithmetic A) (τ : A) (j : ℕ) → 2 ≤ j → a.less (a.times (a.times a.two τ) (T a τ (j - 1))) (T a τ (j - 2)) ≡ T a τ j
unfolding T
T-step a τ zero h = absurd (none h)
  where
    none : 2 ≤ 0 → ⊥
    none h = omega arith
T-step a τ (suc zero) h = absurd (none h)
  where
    none : 2 ≤ 1 → ⊥
    none h = omega arith
T-step a τ (suc (suc j)) h =
    let e1 : suc (suc j) - 1 ≡ suc j = omega arith in
    let e2 : suc (suc j) - 2 ≡ j = omega arith in
    rw (e1, e2)

pub T'-step : {A : Type 0} (a : Arithmetic A) (τ : A) (j : ℕ) → 2 ≤ j
    → a.less (a.plus (a.times a.two (T a τ (j - 1))) (a.times (a.times a.two τ) (T' a τ (j - 1)))) (T' a τ (j - 2)) ≡ T' a τ j
unfolding T'
T'-step a τ zero h = absurd (none h)
  where
    none : 2 ≤ 0 → ⊥
    none h = omega arith
T'-step a τ (suc zero) h = absurd (none h)
  where
    none : 2 ≤ 1 → ⊥
    none h = omega arith
T'-step a τ (suc (suc j)) h =
    let e1 : suc (suc j) - 1 ≡ suc j = omega arith in
    let e2 : suc (suc j) - 2 ≡ j = omega arith in
    rw (e1, e2)

-- one term of the sum
pub weighted-step : {A : Type 0} (a : Arithmetic A) (d s : A) (c t : List A) (j : ℕ) → j < length c → j < length t
    → weighted_from a (a.plus s (a.times (get_or c j d) (get_or t j d))) (drop (j + 1) c) (drop (j + 1) t) ≡ weighted_from a s (drop j c) (drop j t)
unfolding weighted_from
weighted-step a d s c t j h k = rw (add-one, drop-cons c j d h, drop-cons t j d k)

pub weighted_end : {A : Type 0} (a : Arithmetic A) (s : A) (c t : List A) (j : ℕ) → length c ≤ j → weighted_from a s (drop j c) (drop j t) ≡ s
unfolding weighted_from
weighted_end a s c t j h = rw (drop_of_length-le c h)

-- one pair more, and the sum as a fold over the pairs
abbrev pub sum_more : Float → Float × Float → Float
sum_more s p = rounded.plus s (rounded.times p.0 p.1)

pub folded : (s : Float) (c t : List Float) → fold sum_more s (zip c t) ≡ weighted_from rounded s c t
unfolding weighted_from
folded s [] t = refl
folded s (c ∷ cs) [] = refl
folded s (c ∷ cs) (t ∷ ts) = folded (sum_more s (c, t)) cs ts
