-- Sums by columns: adding column after column, each times its value, makes of every row the weighted sum of that row, term by term in the same
-- order. Assumes nothing.
use mathlib.Core.Path.{◌≡◌, sym, ap, ◌∙◌}
use mathlib.Core.List.{[]}
use Prim.Native.Nat.{ℕ, ◌+◌, ◌≤◌, ◌<◌}
use native.Mathlib.Omega.{arith}
use lib.ListN.{length, get_or, drop, replicate}
use lib.Ieee.{Float, nan, binary64, add, mul}
use Rattle.common.specs.Lists.{list_of}
use Rattle.chebyshev.specs.Recurrence.{rounded, weighted, weighted_from}
use Rattle.chebyshev.specs.Inverse.{Row, Matrix, cell, column}
use Rattle.common.specs.Numbers.{nought}
use Rattle.chebyshev.specs.Ideal.{transposed}
use Rattle.chebyshev.specs.Steps.{scaled_onto}
use Rattle.common.proofs.Filled.{length-list_of, get_or-list_of}
use Rattle.chebyshev.proofs.Sums.{weighted-step, weighted_end}

-- the k-th element of a list by its index
pub at : {A : Type 0} (f : ℕ → A) (n k : ℕ) (d : A) → k < n → get_or (list_of f n 0) k d ≡ f k
at f n k d h = let e : 0 + k ≡ k = omega arith in get_or-list_of f n 0 k d h ∙ ap f e

-- after k columns: what row j has so far, and its terms from k on, are the whole sum
abbrev pub Partial : Matrix → Row → ℕ → Row → Type 0
Partial rows values k c = (j : ℕ) → j < 10 → weighted_from rounded (get_or c j nan) (drop k (get_or rows j [])) (drop k values) ≡ weighted rounded (get_or rows j []) values

pub partial_zero : (rows : Matrix) (values : Row) → Partial rows values 0 (replicate 10 nought)
unfolding list_of
partial_zero rows values j h = ap (λ (s : Float). weighted_from rounded s (get_or rows j []) values) (at (λ k. nought) 10 j nan h)

module _ (rows columns : Matrix) (values : Row) (turned : rows ≡ transposed columns) where
  row_is : (j : ℕ) → j < 10 → get_or rows j [] ≡ column j columns
  row_is j h = ap (λ (m : Matrix). get_or m j []) turned ∙ at (λ i. column i columns) 10 j [] h

  pub partial_more : (c c' : Row) (k k' : ℕ) → k < 10 → length values ≡ 10 → k' ≡ k + 1 → c' ≡ scaled_onto c (get_or columns k []) (get_or values k nan) → Partial rows values k c → Partial rows values k' c'
  partial_more c c' k k' h l more e p j u =
      let row = column j columns in
      let term : get_or c' j nan ≡ add binary64 (get_or c j nan) (mul binary64 (get_or row k nan) (get_or values k nan)) =
      ap (λ (x : Row). get_or x j nan) e
      ∙ at (λ i. add binary64 (get_or c i nan) (mul binary64 (get_or (get_or columns k []) i nan) (get_or values k nan))) 10 j nan u
      ∙ ap (λ (x : Float). add binary64 (get_or c j nan) (mul binary64 x (get_or values k nan))) (sym (at (λ r. cell columns r j) 10 k nan h)) in
      ap (λ (m : ℕ). weighted_from rounded (get_or c' j nan) (drop m (get_or rows j [])) (drop m values)) more
      ∙ ap (λ (x : Row). weighted_from rounded (get_or c' j nan) (drop (k + 1) x) (drop (k + 1) values)) (row_is j u)
      ∙ ap (λ (s : Float). weighted_from rounded s (drop (k + 1) row) (drop (k + 1) values)) term
      ∙ weighted-step rounded nan (get_or c j nan) row values k (omega (arith, length-list_of (λ r. cell columns r j) 10 0)) (omega arith)
      ∙ ap (λ (x : Row). weighted_from rounded (get_or c j nan) (drop k x) (drop k values)) (sym (row_is j u))
      ∙ p j u

  pub partial_end : (c : Row) (k : ℕ) → 10 ≤ k → Partial rows values k c → (j : ℕ) → j < 10 → get_or c j nan ≡ weighted rounded (get_or rows j []) values
  partial_end c k h p j u =
      let long : length (get_or rows j []) ≡ 10 = ap length (row_is j u) ∙ length-list_of (λ r. cell columns r j) 10 0 in
      sym (weighted_end rounded (get_or c j nan) (get_or rows j []) values k (omega arith)) ∙ p j u
