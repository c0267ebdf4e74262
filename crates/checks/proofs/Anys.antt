-- The laws of whether one of a list is such: one element more; it is so exactly where an element is such, so a list that has the same elements and others has one too; and of what is
-- made of a list. By the test of the first element. Assumes nothing.
use mathlib.Core.Path.{◌≡◌, refl, ap, subst}
use mathlib.Core.Logic.{◌⊎◌, inl, inr}
use mathlib.Core.Bool.{Bool, true, false, not, ◌||◌}
use mathlib.Core.List.Memᴰ
use mathlib.Core.List.{List, [], ◌∷◌, map, Memᴰ}
use lib.Dec.{T, T_not, not_T}
use Rattle.checks.specs.Checks.{any}

module _ {A : Type 0} (p : A → Bool) where
  -- of no list
  pub any_empty : any p [] ≡ false
  any_empty = refl

  -- one element more
  pub any-one : (x : A) (xs : List A) → any p (x ∷ xs) ≡ (p x || any p xs)
  any-one x xs = refl

  -- where one of a list is such, here it is
  pub any_is : (xs : List A) → T (any p xs) → (x : A) × Memᴰ x xs × T (p x)
  any_is [] h = absurd h
  any_is (x ∷ xs) h = go (p x) (λ t. t) h (any_is xs)
    where
      deeper : (y : A) × Memᴰ y xs × T (p y) → (y : A) × Memᴰ y (x ∷ xs) × T (p y)
      deeper r = (r.0, Memᴰ.tail r.1, r.2)

      go : (v : Bool) → (T v → T (p x)) → T (v || any p xs) → (T (any p xs) → (y : A) × Memᴰ y xs × T (p y)) → (y : A) × Memᴰ y (x ∷ xs) × T (p y)
      go true f h r = (x, Memᴰ.head refl, f tt)
      go false f h r = deeper (r h)

  -- and the other way
  pub is_any : (x : A) (xs : List A) → Memᴰ x xs → T (p x) → T (any p xs)
  is_any x [] m t = absurd (Memᴰ.not-nil m)
  is_any x (y ∷ ys) m t = go (p y) (λ e. subst (λ (z : A). T (p z)) e t) (Memᴰ.cases_cons m) (λ n. is_any x ys n t)
    where
      go : (v : Bool) → (x ≡ y → T v) → (x ≡ y) ⊎ Memᴰ x ys → (Memᴰ x ys → T (any p ys)) → T (v || any p ys)
      go true f c r = tt
      go false f (inl e) r = absurd (f e)
      go false f (inr n) r = r n

  -- also in a list that has the same elements and others
  pub any_among : (xs ys : List A) → ((x : A) → Memᴰ x xs → Memᴰ x ys) → T (any p xs) → T (any p ys)
  any_among xs ys f h = go (any_is xs h)
    where
      go : (x : A) × Memᴰ x xs × T (p x) → T (any p ys)
      go r = is_any r.0 ys (f r.0 r.1) r.2

  -- where none is such, no element is
  pub none_is : (x : A) (xs : List A) → T (not (any p xs)) → Memᴰ x xs → T (not (p x))
  none_is x xs n m = not_T (p x) (λ t. T_not (any p xs) n (is_any x xs m t))

  -- and the other way
  pub is_none : (xs : List A) → ((x : A) → Memᴰ x xs → T (not (p x))) → T (not (any p xs))
  is_none xs f = not_T (any p xs) (λ t. go (any_is xs t))
    where
      go : (x : A) × Memᴰ x xs × T (p x) → ⊥
      go r = T_not (p r.0) (f r.0 r.1) r.2

  -- of a list of made ones
  pub any-map : {B : Type 0} (f : B → A) (xs : List B) → any p (map f xs) ≡ any (λ x. p (f x)) xs
  any-map {B} f [] = refl
  any-map {B} f (x ∷ xs) = ap (λ (b : Bool). p (f x) || b) (any-map f xs)
