-- The laws of a sum in order: of no element and of one more, of one list after another, and the steps of a loop that sums the front of a list, as it is or with each element mapped. Assumes nothing.
use mathlib.Core.Path.{◌≡◌, refl}
use mathlib.Core.List.{List, [], ◌∷◌, ◌++◌, map}
use Prim.Native.Nat.{ℕ, suc, ◌+◌, ◌-◌, ◌≤◌, ◌<◌}
use native.Mathlib.Numerals.{add-one}
use native.Mathlib.Omega.{arith}
use lib.ListN.{length, get_or, take, drop}
use lib.Seq.{drop-cons}
use lib.Ieee.{Float, nan}
use Rattle.common.specs.Rounded.{◌⊕◌}
use Rattle.common.specs.Sums.{sum_from}

-- of none, and one more at the front
pub sum_none : (a : Float) → sum_from a [] ≡ a
unfolding sum_from
sum_none a = refl

pub sum_more : (a y : Float) (ys : List Float) → sum_from a (y ∷ ys) ≡ sum_from (a ⊕ y) ys
unfolding sum_from
sum_more a y ys = refl

-- the second list is summed onto the sum of the first
pub sum-append : (a : Float) (s t : List Float) → sum_from a (s ++ t) ≡ sum_from (sum_from a s) t
unfolding sum_from
sum-append a [] t = refl
sum-append a (y ∷ ys) t = sum-append (a ⊕ y) ys t

-- a loop over the elements from i up to n: one more
pub sum_step : (s : Float) (l : List Float) (i n : ℕ) → i < n → n ≤ length l → sum_from (s ⊕ get_or l i nan) (take (n - (i + 1)) (drop (i + 1) l)) ≡ sum_from s (take (n - i) (drop i l))
unfolding sum_from
sum_step s l i n h k =
    let e : n - i ≡ suc (n - (i + 1)) = omega arith in
    let u : i < length l = omega arith in
    rw (e, drop-cons l i nan u, add-one)

-- and the end
pub sum_end : (s : Float) (l : List Float) (i n : ℕ) → n ≤ i → sum_from s (take (n - i) (drop i l)) ≡ s
unfolding sum_from
sum_end s l i n h =
    let e : n - i ≡ 0 = omega arith in
    rw e

module _ (g : Float → Float) where
  -- the same of a loop that sums what g makes of each
  pub mapped-step : (s : Float) (l : List Float) (i n : ℕ) → i < n → n ≤ length l → sum_from (s ⊕ g (get_or l i nan)) (map g (take (n - (i + 1)) (drop (i + 1) l))) ≡ sum_from s (map g (take (n - i) (drop i l)))
  unfolding sum_from
  mapped-step s l i n h k =
      let e : n - i ≡ suc (n - (i + 1)) = omega arith in
      let u : i < length l = omega arith in
      rw (e, drop-cons l i nan u, add-one)

  pub mapped_end : (s : Float) (l : List Float) (i n : ℕ) → n ≤ i → sum_from s (map g (take (n - i) (drop i l))) ≡ s
  unfolding sum_from
  mapped_end s l i n h =
      let e : n - i ≡ 0 = omega arith in
      rw e
