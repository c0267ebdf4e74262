-- The laws of those of a list that are such: one element more, and none left; which elements they are, and how many at most; of one list after another, of what is made of a list, and one test after another.
-- Each by the test of the first element. Assumes nothing.
use mathlib.Core.Path.{◌≡◌, refl, sym, ap, subst}
use mathlib.Core.Logic.{◌⊎◌, inl, inr}
use mathlib.Core.Bool.{Bool, true, false, cond, ◌&&◌}
use mathlib.Core.List.Memᴰ
use mathlib.Core.List.{List, [], ◌∷◌, ◌++◌, map, Memᴰ}
use Prim.Native.Nat.{suc, ◌≤◌}
use native.Mathlib.Omega.{arith}
use lib.Dec.{T}
use lib.ListN.{length}
use Rattle.common.specs.Lists.{those}

module _ {A : Type 0} (p : A → Bool) where
  pub those_none : those p [] ≡ []
  unfolding those
  those_none = refl

  pub those_yes : (x : A) (xs : List A) → p x ≡ true → those p (x ∷ xs) ≡ x ∷ those p xs
  unfolding those
  those_yes x xs h = ap (λ (b : Bool). cond b (x ∷ those p xs) (those p xs)) h

  pub those_no : (x : A) (xs : List A) → p x ≡ false → those p (x ∷ xs) ≡ those p xs
  unfolding those
  those_no x xs h = ap (λ (b : Bool). cond b (x ∷ those p xs) (those p xs)) h

  -- one of those is one of the list, and is such
  pub those_are : (x : A) (xs : List A) → Memᴰ x (those p xs) → Memᴰ x xs × T (p x)
  unfolding those
  those_are x [] m = absurd (Memᴰ.not-nil m)
  those_are x (y ∷ ys) m = go (p y) (λ t. t) m (those_are x ys)
    where
      deeper : Memᴰ x ys × T (p x) → Memᴰ x (y ∷ ys) × T (p x)
      deeper r = (Memᴰ.tail r.0, r.1)

      cases : T (p y) → (Memᴰ x (those p ys) → Memᴰ x ys × T (p x)) → (x ≡ y) ⊎ Memᴰ x (those p ys) → Memᴰ x (y ∷ ys) × T (p x)
      cases t r (inl e) = (Memᴰ.head e, subst (λ (z : A). T (p z)) (sym e) t)
      cases t r (inr n) = deeper (r n)

      go : (v : Bool) → (T v → T (p y)) → Memᴰ x (cond v (y ∷ those p ys) (those p ys)) → (Memᴰ x (those p ys) → Memᴰ x ys × T (p x)) → Memᴰ x (y ∷ ys) × T (p x)
      go true t m r = cases (t tt) r (Memᴰ.cases_cons m)
      go false t m r = deeper (r m)

  -- and the other way: one of the list that is such is one of those
  pub are_those : (x : A) (xs : List A) → Memᴰ x xs → T (p x) → Memᴰ x (those p xs)
  unfolding those
  are_those x [] m t = absurd (Memᴰ.not-nil m)
  are_those x (y ∷ ys) m t = go (p y) (λ e. subst (λ (z : A). T (p z)) e t) (Memᴰ.cases_cons m) (λ n. are_those x ys n t)
    where
      go : (v : Bool) → (x ≡ y → T v) → (x ≡ y) ⊎ Memᴰ x ys → (Memᴰ x ys → Memᴰ x (those p ys)) → Memᴰ x (cond v (y ∷ those p ys) (those p ys))
      go true f (inl e) r = Memᴰ.head e
      go true f (inr n) r = Memᴰ.tail (r n)
      go false f (inl e) r = absurd (f e)
      go false f (inr n) r = r n

  -- where none is such, none is left
  pub those_nothing : (xs : List A) → ((x : A) → Memᴰ x xs → T (p x) → ⊥) → those p xs ≡ []
  unfolding those
  those_nothing [] h = refl
  those_nothing (x ∷ xs) h = go (p x) (h x (Memᴰ.head refl)) (those_nothing xs (λ y m. h y (Memᴰ.tail m)))
    where
      go : (v : Bool) → (T v → ⊥) → those p xs ≡ [] → cond v (x ∷ those p xs) (those p xs) ≡ []
      go true n r = absurd (n tt)
      go false n r = r

  -- they are at most as many
  pub those-fewer : (xs : List A) → length (those p xs) ≤ length xs
  unfolding those
  those-fewer [] = omega arith
  those-fewer (x ∷ xs) = go (p x) (those-fewer xs)
    where
      go : (v : Bool) → length (those p xs) ≤ length xs → length (cond v (x ∷ those p xs) (those p xs)) ≤ suc (length xs)
      go true h = omega arith
      go false h = omega arith

  -- of one list after another
  pub those-append : (xs ys : List A) → those p (xs ++ ys) ≡ those p xs ++ those p ys
  unfolding those
  those-append [] ys = refl
  those-append (x ∷ xs) ys = go (p x) (those-append xs ys)
    where
      go : (v : Bool) → those p (xs ++ ys) ≡ those p xs ++ those p ys → cond v (x ∷ those p (xs ++ ys)) (those p (xs ++ ys)) ≡ cond v (x ∷ those p xs) (those p xs) ++ those p ys
      go true e = ap {B = List A} (λ r. x ∷ r) e
      go false e = e

  -- of those that are such, those that are such too
  pub those-those : (q : A → Bool) (xs : List A) → those q (those p xs) ≡ those (λ x. p x && q x) xs
  unfolding those
  those-those q [] = refl
  those-those q (x ∷ xs) = go (p x) (those-those q xs)
    where
      go : (v : Bool) → those q (those p xs) ≡ those (λ y. p y && q y) xs
          → those q (cond v (x ∷ those p xs) (those p xs)) ≡ cond (v && q x) (x ∷ those (λ y. p y && q y) xs) (those (λ y. p y && q y) xs)
      go true e = ap (λ (r : List A). cond (q x) (x ∷ r) r) e
      go false e = e

  -- of a list of made ones: what is made of those that would be such
  pub those-map : {B : Type 0} (f : B → A) (xs : List B) → those p (map f xs) ≡ map f (those (λ x. p (f x)) xs)
  unfolding those
  those-map {B} f [] = refl
  those-map {B} f (x ∷ xs) = go (p (f x)) (those-map f xs)
    where
      go : (v : Bool) → those p (map f xs) ≡ map f (those (λ y. p (f y)) xs)
          → cond v (f x ∷ those p (map f xs)) (those p (map f xs)) ≡ map f (cond v (x ∷ those (λ y. p (f y)) xs) (those (λ y. p (f y)) xs))
      go true e = ap {B = List A} (λ r. f x ∷ r) e
      go false e = e
