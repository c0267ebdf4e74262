-- One column of the elimination is one step of the definition, and the columns from i on end where the whole inversion does. Assumes nothing.
use mathlib.Core.Path.{◌≡◌, refl, ap, ap₂, ◌∙◌, sym}
use mathlib.Core.Bool.{Bool, true, false}
use Prim.Native.Nat.{ℕ, zero, suc, ◌+◌, ◌-◌, ◌≤◌, ◌<◌}
use native.Mathlib.Omega.{arith}
use lib.Ieee.{Float, lt}
use Rattle.common.specs.Outcome.{Outcome, Told, refused, answered}
use Rattle.float.specs.Signs.{magnitude_of}
use Rattle.chebyshev.specs.Inverse.{Row, Matrix, cell, exchanged, least_pivot, singular_refusal, too_small, pivot_row, scaled_at, column, cleared_by, columns_from, order, unit_rows, inverted}
use Rattle.chebyshev.specs.Steps.{cleared_column, column_cleared}

-- the pivot's test, by the row that was found and its magnitude
pub small_is : (i j : ℕ) (t : Matrix) (x : Float) (b : Bool) → j ≡ pivot_row i t → x ≡ magnitude_of (cell t j i) → lt x least_pivot ≡ b → too_small i t ≡ b
small_is i j t x b ej ex s = ap (λ (r : ℕ). lt (magnitude_of (cell t r i)) least_pivot) (sym ej) ∙ ap (λ (y : Float). lt y least_pivot) (sym ex) ∙ s

-- what the steps leave of the matrix itself, and of the inverse so far
pub turned : (i j : ℕ) (t v t1 v1 t2 v2 t3 v3 : Matrix) (ks : Row) → j ≡ pivot_row i t → t1 ≡ exchanged i j t → v1 ≡ exchanged i j v
    → t2 ≡ scaled_at i (cell t1 i i) t1 → v2 ≡ scaled_at i (cell t1 i i) v1 → ks ≡ column i t2 → t3 ≡ cleared_by i ks t2 → v3 ≡ cleared_by i ks v2
    → (t3 ≡ cleared_column i t t) × (v3 ≡ cleared_column i t v)
turned i j t v t1 v1 t2 v2 t3 v3 ks ej e1 f1 e2 f2 ek e3 f3 = (rw (e3, ek, e2, e1, ej), rw (f3, f2, f1, ek, e2, e1, ej))

pub columns_end : (i : ℕ) (t v : Matrix) → 10 ≤ i → columns_from (10 - i) i t v ≡ answered v
unfolding columns_from
columns_end i t v h =
    let e : 10 - i ≡ 0 = omega arith in
    rw e

pub columns_stop : (i : ℕ) (t v : Matrix) → i < 10 → too_small i t ≡ true → columns_from (10 - i) i t v ≡ refused singular_refusal
unfolding columns_from
columns_stop i t v h s =
    let e : 10 - i ≡ suc (10 - (i + 1)) = omega arith in
    rw (e, columns_from, s)

columns-step : (i : ℕ) (t v : Matrix) → i < 10 → too_small i t ≡ false → columns_from (10 - (i + 1)) (i + 1) (cleared_column i t t) (cleared_column i t v) ≡ columns_from (10 - i) i t v
unfolding columns_from
columns-step i t v h s =
    let e : 10 - i ≡ suc (10 - (i + 1)) = omega arith in
    rw (e, columns_from, s)

-- what the pivot's test makes of the rest of a step
abbrev stepped : {A : Type 0} → Bool → Outcome A → Outcome A
stepped b rest = elim b [ true ↦ refused singular_refusal | false ↦ rest ]

-- by what a column's own function ensures: refused, or both matrices turned
-- both matrices of a step
abbrev pair_in : Matrix × Matrix → Outcome (Matrix × Matrix) → Matrix × Matrix
pair_in d (refused n) = d
pair_in d (answered pair) = pair

module _ (i : ℕ) (t v : Matrix) where
  pub column_refused : too_small i t ≡ true → ◌≡◌ {A = Outcome (Matrix × Matrix)} (refused singular_refusal) (column_cleared i t v)
  column_refused s = ap (λ (b : Bool). stepped b (answered (cleared_column i t t, cleared_column i t v))) (sym s)

  pub column_taken : (t' v' : Matrix) → too_small i t ≡ false → t' ≡ cleared_column i t t → v' ≡ cleared_column i t v → ◌≡◌ {A = Outcome (Matrix × Matrix)} (answered (t', v')) (column_cleared i t v)
  column_taken t' v' s e f = ap₂ (λ (x y : Matrix). answered (x, y)) e f ∙ ap (λ (b : Bool). stepped b (answered (cleared_column i t t, cleared_column i t v))) (sym s)

pub columns_refused : (i n : ℕ) (t v : Matrix) → i < 10 → ◌≡◌ {A = Outcome (Matrix × Matrix)} (refused n) (column_cleared i t v) → refused n ≡ columns_from (10 - i) i t v
columns_refused i n t v h e = go (too_small i t) refl e
  where
    go : (b : Bool) → too_small i t ≡ b → ◌≡◌ {A = Outcome (Matrix × Matrix)} (refused n) (stepped b (answered (cleared_column i t t, cleared_column i t v))) → refused n ≡ columns_from (10 - i) i t v
    go true s e = let k : n ≡ singular_refusal = cc in ap refused k ∙ sym (columns_stop i t v h s)
    go false s e = cc

pub columns_turn : (i : ℕ) (t v t' v' : Matrix) → i < 10 → ◌≡◌ {A = Outcome (Matrix × Matrix)} (answered (t', v')) (column_cleared i t v) → columns_from (10 - (i + 1)) (i + 1) t' v' ≡ columns_from (10 - i) i t v
columns_turn i t v t' v' h e = go (too_small i t) refl e
  where
    go : (b : Bool) → too_small i t ≡ b → ◌≡◌ {A = Outcome (Matrix × Matrix)} (answered (t', v')) (stepped b (answered (cleared_column i t t, cleared_column i t v))) → columns_from (10 - (i + 1)) (i + 1) t' v' ≡ columns_from (10 - i) i t v
    go true s e = cc
    go false s e =
        let p : t' ≡ cleared_column i t t = ap (λ (o : Outcome (Matrix × Matrix)). (pair_in (t', v') o).0) e in
        let q : v' ≡ cleared_column i t v = ap (λ (o : Outcome (Matrix × Matrix)). (pair_in (t', v') o).1) e in
        rw (p, q) (columns-step i t v h s)

-- ---- the only refusal is 8

told_step : (rest : Outcome Matrix) (b : Bool) → Told rest → Told (stepped b rest)
told_step rest true h = tt
told_step rest false h = h

eight_step : (rest : Outcome Matrix) (b : Bool) (k : ℕ) → (rest ≡ refused k → k ≡ singular_refusal) → stepped b rest ≡ refused k → k ≡ singular_refusal
eight_step rest true k h e = cc
eight_step rest false k h e = h e

told_from : (n i : ℕ) (t v : Matrix) → Told (columns_from n i t v)
unfolding columns_from
told_from zero i t v = tt
told_from (suc n) i t v = told_step _ (too_small i t) (told_from n (i + 1) (cleared_column i t t) (cleared_column i t v))

eight_from : (n i : ℕ) (t v : Matrix) (k : ℕ) → columns_from n i t v ≡ refused k → k ≡ singular_refusal
unfolding columns_from
eight_from zero i t v k e = let z : ◌≡◌ {A = ℕ} 0 1 = cc in absurd (omega arith)
eight_from (suc n) i t v k e = eight_step _ (too_small i t) k (eight_from n (i + 1) (cleared_column i t t) (cleared_column i t v) k) e

pub inverted_told : (a : Matrix) → Told (inverted a)
unfolding inverted
inverted_told a = told_from order 0 a unit_rows

pub inverted_eight : (a : Matrix) (k : ℕ) → inverted a ≡ refused k → k ≡ singular_refusal
unfolding inverted
inverted_eight a k e = eight_from order 0 a unit_rows k e
