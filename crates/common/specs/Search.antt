-- A search for the first of the best, "first of equals", through any list by any comparison; and what it finds, said without the search.
use Rattle.std.specs.Prelude.{ℕ, ◌≤◌, ◌<◌, ◌≡◌, Bool, not, cond, List, [], ◌∷◌, T}

-- of the best so far and x: x only where it compares better
abbrev pub better_of : {A : Type 0} → (A → A → Bool) → A → A → A
better_of better best x = cond (better x best) x best

-- a search through a list with the best so far: an element takes its place only where it compares better, so the first of equals wins
unfoldable pub first_best : {A : Type 0} → (A → A → Bool) → A → List A → A
first_best better best [] = best
first_best better best (x ∷ xs) = first_best better (better_of better best x) xs

-- what a comparison must be for the law: nothing is better than itself; better than a better one is better; and what is better than y is better
-- than any z that is not better than y, if z is better than anything at all (a NaN is not)
pub record Comparison {A : Type 0} (better : A → A → Bool) : Type 0 where
  pub never_itself : (x : A) → T (not (better x x))
  pub through : (x y z : A) → T (better x y) → T (better y z) → T (better x z)
  pub past : (x y z c : A) → T (better x y) → T (better z c) → T (not (better z y)) → T (better x z)

-- of the elements at k, .., at (n − 1), place i is the first of the best: it beats b, none beats it, and it beats each earlier one that beats b
pub record FirstOfBest {A : Type 0} (better : A → A → Bool) (b : A) (at : ℕ → A) (k n i : ℕ) : Type 0 where
  pub from : k ≤ i
  pub inside : i < n
  pub beats : T (better (at i) b)
  pub best : (j : ℕ) → k ≤ j → j < n → T (not (better (at j) (at i)))
  pub first : (j : ℕ) → k ≤ j → j < i → T (better (at j) b) → T (better (at i) (at j))

-- what a search through those elements that began with b ends with, w: b where none of them beats it, else the first of the best
pub data Searched {A : Type 0} (better : A → A → Bool) (b : A) (at : ℕ → A) (k n : ℕ) (w : A) : Type 0 where
  kept : w ≡ b → ((j : ℕ) → k ≤ j → j < n → T (not (better (at j) b))) → Searched better b at k n w
  won : (i : ℕ) → w ≡ at i → FirstOfBest better b at k n i → Searched better b at k n w
