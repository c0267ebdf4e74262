-- A list by its index, and those of a list that are such, and how many.
use Rattle.std.specs.Prelude.{ℕ, zero, suc, ◌+◌, Bool, cond, List, [], ◌∷◌, length}

-- f j, f (j + 1), .., n of them
unfoldable pub list_of : {A : Type 0} → (ℕ → A) → ℕ → ℕ → List A
list_of f zero j = []
list_of f (suc n) j = f j ∷ list_of f n (j + 1)

-- those of a list that are such, in their order
unfoldable pub those : {A : Type 0} → (A → Bool) → List A → List A
those p [] = []
those p (x ∷ xs) = cond (p x) (x ∷ those p xs) (those p xs)

-- how many of a list are such
abbrev pub how_many : {A : Type 0} → (A → Bool) → List A → ℕ
how_many p xs = length (those p xs)
