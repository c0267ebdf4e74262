-- The loops over rows: what is written so far, and what the definition makes of the rest, is what it makes of the whole. Assumes nothing.
use mathlib.Core.Path.{◌≡◌, refl, ap, ◌∙◌}
use mathlib.Core.Bool.{cond}
use mathlib.Core.List.{List, [], ◌∷◌, ◌++◌, append-nil}
use Prim.Native.Nat.{ℕ, suc, ◌+◌, ◌-◌, ◌*◌, ◌/◌, ◌%◌, ◌≤◌, ◌<◌}
use native.Mathlib.Nat.{le_refl, le_of_suc-le-suc, lt_of_not-le}
use native.Mathlib.Decide.{dec_lt}
use native.Mathlib.Numerals.{add-one}
use lib.ListN.{length, get_or, take, drop, set, drop_of_length-le, take-append-drop, length-take}
use lib.Seq.{take-suc-set, drop-set-lt, drop-cons, append_snoc, take_all, set_out}
use lib.Ieee.{Float, nan, binary64, div, sub, mul}
use lib.Dec.{eqb}
use borrow.Author.Tests.{eq-eqb, ne_eqb}
use native.Mathlib.Omega.{arith}
use Rattle.std.specs.List.{swap}
use Rattle.std.proofs.lemmas.List.{get_or_default, get_or-take, get_or_append_left, get_or-append_right}
use Rattle.chebyshev.specs.Inverse.{Row, Matrix, cell, divided, reduced, cleared, exchanged}

pub divided-step : (p : Float) (l : Row) (c : ℕ) → c < length l
    → (let v = div binary64 (get_or l c nan) p in take (c + 1) (set l c v) ++ divided p (drop (c + 1) (set l c v)) ≡ take c l ++ divided p (drop c l))
unfolding divided
divided-step p l c h =
    let v = div binary64 (get_or l c nan) p in
    rw (add-one, take-suc-set l c v h, drop-set-lt (suc c) l c v (le_refl (suc c)), drop-cons l c nan h)
    (append_snoc (take c l) v (divided p (drop (suc c) l)))

pub divided_end : (p : Float) (l : Row) (c : ℕ) → length l ≤ c → take c l ++ divided p (drop c l) ≡ l
unfolding divided
divided_end p l c h = rw (take_all c l h, drop_of_length-le l h) (append-nil l)

pub reduced-step : (k : Float) (by l : Row) (c : ℕ) → c < length l → c < length by
    → (let v = sub binary64 (get_or l c nan) (mul binary64 k (get_or by c nan)) in
    take (c + 1) (set l c v) ++ reduced k (drop (c + 1) (set l c v)) (drop (c + 1) by) ≡ take c l ++ reduced k (drop c l) (drop c by))
unfolding reduced
reduced-step k by l c h g =
    let v = sub binary64 (get_or l c nan) (mul binary64 k (get_or by c nan)) in
    rw (add-one, take-suc-set l c v h, drop-set-lt (suc c) l c v (le_refl (suc c)), drop-cons l c nan h, drop-cons by c nan g)
    (append_snoc (take c l) v (reduced k (drop (suc c) l) (drop (suc c) by)))

pub reduced_end : (k : Float) (by l : Row) (c : ℕ) → length l ≤ c → take c l ++ reduced k (drop c l) (drop c by) ≡ l
unfolding reduced
reduced_end k by l c h = rw (take_all c l h, drop_of_length-le l h) (append-nil l)

-- one element written, in front of what is made of the rest
pub written : {A : Type 0} (l : List A) (c : ℕ) (v : A) (rest : List A) → c < length l → take (c + 1) (set l c v) ++ rest ≡ take c l ++ v ∷ rest
written l c v rest h = rw (add-one, take-suc-set l c v h) (append_snoc (take c l) v rest)

-- one row more; past the last row nothing changes on either side
pub cleared-step : (i : ℕ) (by ks : Row) (l : Matrix) (r : ℕ) → r < length ks
    → (let v = cond (eqb r i) (get_or l r []) (reduced (get_or ks r nan) (get_or l r []) by) in
    take (r + 1) (set l r v) ++ cleared i by (r + 1) (drop (r + 1) ks) (drop (r + 1) (set l r v)) ≡ take r l ++ cleared i by r (drop r ks) (drop r l))
unfolding cleared
cleared-step i by ks l r g = go (dec_lt r (length l))
  where
    v : Row
    v = cond (eqb r i) (get_or l r []) (reduced (get_or ks r nan) (get_or l r []) by)

    go : Dec (r < length l) → take (r + 1) (set l r v) ++ cleared i by (r + 1) (drop (r + 1) ks) (drop (r + 1) (set l r v)) ≡ take r l ++ cleared i by r (drop r ks) (drop r l)
    go (yes h) =
        written l r v (cleared i by (r + 1) (drop (r + 1) ks) (drop (r + 1) (set l r v))) h
        ∙ rw (drop-cons l r [] h, drop-cons ks r nan g, drop-set-lt (r + 1) l r v (omega arith), add-one)
    go (no h) =
        let o : length l ≤ r = le_of_suc-le-suc (lt_of_not-le h) in
        let o1 : length l ≤ r + 1 = omega arith in
        rw (set_out l r v o, take_all (r + 1) l o1, drop_of_length-le l o1, take_all r l o, drop_of_length-le l o)

-- at the last factor the rest is untouched
no_factors : (i : ℕ) (by : Row) (r : ℕ) (l : Matrix) → cleared i by r [] l ≡ l
unfolding cleared
no_factors i by r [] = refl
no_factors i by r (x ∷ xs) = refl

pub cleared_end : (i : ℕ) (by ks : Row) (l : Matrix) (r : ℕ) → length ks ≤ r → take r l ++ cleared i by r (drop r ks) (drop r l) ≡ l
cleared_end i by ks l r h = rw (drop_of_length-le ks h, no_factors i by r (drop r l)) (take-append-drop r l)

-- what a turn leaves of the row r: less its factor times the row i, or as it was where it is row i
pub cleared-other : (i : ℕ) (by ks : Row) (l l' : Matrix) (r : ℕ) (x : Row) → (r ≡ i → ⊥) → x ≡ reduced (get_or ks r nan) (get_or l r []) by → l' ≡ set l r x
    → l' ≡ set l r (cond (eqb r i) (get_or l r []) (reduced (get_or ks r nan) (get_or l r []) by))
cleared-other i by ks l l' r x n e f = rw (ne_eqb r i n) (f ∙ ap (λ (y : Row). set l r y) e)

pub cleared-same : (i : ℕ) (by ks : Row) (l l' : Matrix) (r : ℕ) → r ≡ i → l' ≡ set l r (get_or l r [])
    → l' ≡ set l r (cond (eqb r i) (get_or l r []) (reduced (get_or ks r nan) (get_or l r []) by))
cleared-same i by ks l l' r e f = rw (eq-eqb r i e) f

-- rows inside the matrix in each other's place, as the library has it
pub swapped : (i j : ℕ) (m : Matrix) → i < length m → j < length m → swap m i j ≡ exchanged i j m
swapped i j [] h k = absurd (none i h)
  where
    none : (i : ℕ) → i < 0 → ⊥
    none i h = omega arith
swapped i j (row ∷ rows) h k = rw (get_or_default (row ∷ rows) i row [] h, get_or_default (row ∷ rows) j row [] k)

-- row r put at its place among the hundred: the numbers below 10 r stay, and those of row r are the matrix's
pub row_put : (m : Matrix) (out row rest : Row) (r : ℕ) → r < 10 → length out ≡ 100 → length row ≡ 10 → row ≡ get_or m r [] → ((k : ℕ) → k < 10 * r → get_or out k nan ≡ cell m (k / 10) (k % 10))
    → (k : ℕ) → k < 10 * (r + 1) → get_or (take (10 * r) out ++ (row ++ rest)) k nan ≡ cell m (k / 10) (k % 10)
row_put m out row rest r h long ten same before k u = go (dec_lt k (10 * r))
  where
    go : Dec (k < 10 * r) → get_or (take (10 * r) out ++ (row ++ rest)) k nan ≡ cell m (k / 10) (k % 10)
    go (yes l) = get_or_append_left (take (10 * r) out) (row ++ rest) nan k (simp length-take (omega arith)) ∙ get_or-take (10 * r) out k nan l ∙ before k l
    go (no l) =
        let low : 10 * r ≤ k = le_of_suc-le-suc (lt_of_not-le l) in
        let place : k - 10 * r ≡ k % 10 = omega arith in
        let number : r ≡ k / 10 = omega arith in
        get_or-append_right (take (10 * r) out) (row ++ rest) (10 * r) k nan (simp length-take (omega arith)) low
        ∙ get_or_append_left row rest nan (k - 10 * r) (omega arith)
        ∙ ap (λ (x : Row). get_or x (k - 10 * r) nan) same
        ∙ ap (λ (n : ℕ). cell m r n) place
        ∙ ap (λ (n : ℕ). cell m n (k % 10)) number
