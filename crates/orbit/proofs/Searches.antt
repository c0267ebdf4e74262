-- The last coordinate at or before an instant: in a list that rises it is the one before the first that is past it. Assumes nothing.
use mathlib.Core.Path.{◌≡◌, refl, sym, ap, ◌∙◌, subst}
use mathlib.Core.Logic.{◌⊎◌, inl, inr}
use mathlib.Core.Bool.{Bool, true, false, not, cond, true≢false}
use mathlib.Core.List.{List, [], ◌∷◌}
use Prim.Native.Nat.{ℕ, zero, suc, ◌+◌, ◌-◌, ◌≤◌, ◌<◌}
use native.Mathlib.Nat.{eq-or-lt_of_le, add-zero, le_of_lt}
use native.Mathlib.Omega.{arith}
use lib.Dec.{T, ltb→lt, le→leb}
use lib.IntN.{ℤ, pos, negsuc}
use lib.Signed.{lt_z, le_z, ◌<ℤ◌, lt_z_yes, <ℤ-≤ℤ_trans}
use lib.ListN.{length, get_or}
use borrow.Author.Tests.{not-false}
use Rattle.std.specs.List.Sorted.{IsPartitionPoint}
use Rattle.std.proofs.lemmas.List.{get_or_default}
use Rattle.checks.specs.Checks.{unrising}
use Rattle.checks.proofs.First.{neither}
use Rattle.samples.proofs.Seconds.{<ℤ-trans}
use Rattle.orbit.specs.Window.{last_from, last_before}

abbrev pub at : List ℤ → ℕ → ℤ
at ts k = get_or ts k (pos 0)

lt→le : (a b : ℤ) → T (lt_z a b) → T (le_z a b)
lt→le (pos a) (pos b) h = le→leb a b (le_of_lt (ltb→lt a b h))
lt→le (pos a) (negsuc b) h = h
lt→le (negsuc a) (pos b) h = h
lt→le (negsuc a) (negsuc b) h = le→leb b a (le_of_lt (ltb→lt b a h))

-- ---- a list that rises

head_rises : (a b : ℤ) (r : List ℤ) → unrising (a ∷ b ∷ r) ≡ false → (a <ℤ b) × (unrising (b ∷ r) ≡ false)
unfolding unrising
head_rises a b r h = (lt_z_yes {a = a} {b = b} (subst T (sym (not-false (lt_z a b) (neither (not (lt_z a b)) (unrising (b ∷ r)) h).0)) tt), (neither (not (lt_z a b)) (unrising (b ∷ r)) h).1)

tail_rises : (a : ℤ) (ts : List ℤ) → unrising (a ∷ ts) ≡ false → unrising ts ≡ false
unfolding unrising
tail_rises a [] h = refl
tail_rises a (b ∷ r) h = (head_rises a b r h).1

first_below : (a : ℤ) (ts : List ℤ) (k : ℕ) → unrising (a ∷ ts) ≡ false → k < length ts → a <ℤ at ts k
first_below a [] k h u = absurd (none k u)
  where
    none : (k : ℕ) → k < 0 → ⊥
    none k u = omega arith
first_below a (b ∷ r) zero h u = (head_rises a b r h).0
first_below a (b ∷ r) (suc k) h u = <ℤ-trans (head_rises a b r h).0 (first_below b r k (head_rises a b r h).1 (omega arith))

-- an earlier coordinate is below a later one
pub rises : (ts : List ℤ) (i j : ℕ) → unrising ts ≡ false → i < j → j < length ts → at ts i <ℤ at ts j
rises [] i j h u v = absurd (none j v)
  where
    none : (k : ℕ) → k < 0 → ⊥
    none k u = omega arith
rises (a ∷ ts) zero zero h u v = absurd (none u)
  where
    none : 0 < 0 → ⊥
    none u = omega arith
rises (a ∷ ts) zero (suc j) h u v = first_below a ts j h (omega arith)
rises (a ∷ ts) (suc i) zero h u v = absurd (none i u)
  where
    none : (i : ℕ) → suc i < 0 → ⊥
    none i u = omega arith
rises (a ∷ ts) (suc i) (suc j) h u v = rises ts i j (tail_rises a ts h) (omega arith) (omega arith)

-- what is past t stays past it
pub past : (ts : List ℤ) (t : ℤ) (m : ℕ) → unrising ts ≡ false → le_z (at ts m) t ≡ false → (k : ℕ) → m ≤ k → k < length ts → le_z (at ts k) t ≡ false
past ts t m h p k u v = go (eq-or-lt_of_le u) (le_z (at ts k) t) refl
  where
    go : (m ≡ k) ⊎ (m < k) → (b : Bool) → le_z (at ts k) t ≡ b → le_z (at ts k) t ≡ false
    go (inl e) b q = subst (λ (n : ℕ). le_z (at ts n) t ≡ false) e p
    go (inr l) false q = q
    go (inr l) true q = absurd (true≢false (sym (is_true (le_z (at ts m) t) (lt→le (at ts m) t (<ℤ-≤ℤ_trans (rises ts m k h l v) (record { le = subst T (sym q) tt })).lt)) ∙ p))
      where
        is_true : (b : Bool) → T b → b ≡ true
        is_true true x = refl
        is_true false x = absurd x

-- ---- the last found

none_found : (k found : ℕ) (xs : List ℤ) (t : ℤ) → ((j : ℕ) → j < length xs → le_z (at xs j) t ≡ false) → last_from k found xs t ≡ found
unfolding last_from
none_found k found [] t h = refl
none_found k found (x ∷ xs) t h =
    ap (λ (b : Bool). last_from (k + 1) (cond b k found) xs t) (h 0 (omega arith))
    ∙ none_found (k + 1) found xs t (λ j u. h (suc j) (omega arith))

found_at : (k found : ℕ) (xs : List ℤ) (t : ℤ) (r : ℕ) → r < length xs → le_z (at xs r) t ≡ true → ((j : ℕ) → r < j → j < length xs → le_z (at xs j) t ≡ false) → last_from k found xs t ≡ k + r
unfolding last_from
found_at k found [] t r u p h = absurd (none r u)
  where
    none : (k : ℕ) → k < 0 → ⊥
    none k u = omega arith
found_at k found (x ∷ xs) t zero u p h =
    ap (λ (b : Bool). last_from (k + 1) (cond b k found) xs t) p
    ∙ none_found (k + 1) k xs t (λ j v. h (suc j) (omega arith) (omega arith))
    ∙ sym (add-zero k)
found_at k found (x ∷ xs) t (suc r) u p h =
    let e : k + 1 + r ≡ k + suc r = omega arith in
    found_at (k + 1) (cond (le_z x t) k found) xs t r (omega arith) p (λ j v w. h (suc j) (omega arith) (omega arith)) ∙ e

-- r is the last at or before t, or 0 where none is
pub last_is : (ts : List ℤ) (t : ℤ) (r : ℕ) → r < length ts → (r ≡ 0) ⊎ (le_z (at ts r) t ≡ true) → ((j : ℕ) → r < j → j < length ts → le_z (at ts j) t ≡ false) → r ≡ last_before ts t
last_is ts t r u (inr p) h = let e : r ≡ 0 + r = omega arith in e ∙ sym (found_at 0 0 ts t r u p h)
last_is ts t r u (inl e) h = go (le_z (at ts r) t) refl
  where
    go : (b : Bool) → le_z (at ts r) t ≡ b → r ≡ last_before ts t
    go true q = let e : r ≡ 0 + r = omega arith in e ∙ sym (found_at 0 0 ts t r u q h)
    go false q = e ∙ sym (none_found 0 0 ts t (λ j v. by j v (eq-or-lt_of_le (zero_le j))))
      where
        zero_le : (j : ℕ) → r ≤ j
        zero_le j = omega arith

        by : (j : ℕ) → j < length ts → (r ≡ j) ⊎ (r < j) → le_z (at ts j) t ≡ false
        by j v (inl i) = subst (λ (n : ℕ). le_z (at ts n) t ≡ false) i q
        by j v (inr l) = h j l v

-- those at or before t lie in front of those past it
pub parted : (ts : List ℤ) (t : ℤ) → unrising ts ≡ false → (i j : ℕ) (d : ℤ) → i ≤ j → j < length ts → le_z (get_or ts j d) t ≡ true → le_z (get_or ts i d) t ≡ true
parted ts t h i j d u v p = go (le_z (at ts i) t) refl
  where
    go : (b : Bool) → le_z (at ts i) t ≡ b → le_z (get_or ts i d) t ≡ true
    go true q = subst (λ (x : ℤ). le_z x t ≡ true) (get_or_default ts i (pos 0) d (omega arith)) q
    go false q = absurd (true≢false (sym p ∙ ap (λ (x : ℤ). le_z x t) (get_or_default ts j d (pos 0) v) ∙ past ts t i h q j u v))

-- the last of them is one before the first that is past it
pub point_is : (ts : List ℤ) (t : ℤ) (n : ℕ) → 0 < length ts → n ≤ length ts → IsPartitionPoint (λ x. le_z x t ≡ true) (λ x. le_z x t ≡ false) ts n → n - 1 ≡ last_before ts t
point_is ts t n some fits point = last_is ts t (n - 1) (omega arith) (front n point.0) (λ j u v. point.1 j (pos 0) (omega arith) v)
  where
    front : (n : ℕ) → ((k : ℕ) (d : ℤ) → 0 ≤ k → k < n → le_z (get_or ts k d) t ≡ true) → (n - 1 ≡ 0) ⊎ (le_z (at ts (n - 1)) t ≡ true)
    front zero f = inl refl
    front (suc m) f = inr (f (suc m - 1) (pos 0) (omega arith) (omega arith))
