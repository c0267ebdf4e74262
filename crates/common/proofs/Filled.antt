-- A loop that writes an array from the left: once every index below n holds f of that index, the array is the list of f. Assumes nothing.
use mathlib.Core.Path.{◌≡◌, refl, sym, ap, ◌∙◌, subst}
use mathlib.Core.List.{List}
use mathlib.Core.Logic.{◌⊎◌, inl, inr}
use Prim.Native.Nat.{ℕ, zero, suc, ◌+◌, ◌≤◌, ◌<◌}
use native.Mathlib.Nat.{add-zero, lt_irrefl, eq-or-lt_of_le, le_of_suc-le-suc}
use native.Mathlib.Numerals.{add-one}
use native.Mathlib.Omega.{arith}
use lib.ListN.{length, get_or, set}
use lib.Seq.{ext_get_or, get_or-set_same, get_or-set_other}
use Rattle.common.specs.Lists.{list_of}

pub length-list_of : {A : Type 0} (f : ℕ → A) (n j : ℕ) → length (list_of f n j) ≡ n
unfolding list_of
length-list_of f zero j = refl
length-list_of f (suc n) j = ap suc (length-list_of f n (j + 1))

pub get_or-list_of : {A : Type 0} (f : ℕ → A) (n j k : ℕ) (d : A) → k < n → get_or (list_of f n j) k d ≡ f (j + k)
unfolding list_of
get_or-list_of f zero j k d h = absurd (none k h)
  where
    none : (k : ℕ) → k < 0 → ⊥
    none k h = omega arith
get_or-list_of f (suc n) j zero d h = ap f (sym (add-zero j))
get_or-list_of f (suc n) j (suc k) d h = let e : j + 1 + k ≡ j + suc k = omega arith in get_or-list_of f n (j + 1) k d (omega arith) ∙ ap f e

-- an array that holds f of each index is the list of f
pub filled : {A : Type 0} (f : ℕ → A) (n : ℕ) (d : A) (l : List A) → length l ≡ n → ((k : ℕ) → k < n → get_or l k d ≡ f k) → l ≡ list_of f n 0
filled f n d l e h =
    ext_get_or d l (list_of f n 0) (e ∙ sym (length-list_of f n 0))
    (λ k u.
    let u2 : k < n = subst (λ (m : ℕ). k < m) e u in
    let e0 : 0 + k ≡ k = omega arith in
    h k u2 ∙ sym (get_or-list_of f n 0 k d u2 ∙ ap f e0))

-- one element more
pub filled_more : {A : Type 0} (f : ℕ → A) (d : A) (l : List A) (j : ℕ) (v : A) → j < length l → v ≡ f j → ((k : ℕ) → k < j → get_or l k d ≡ f k) → (k : ℕ) → k < j + 1 → get_or (set l j v) k d ≡ f k
filled_more f d l j v inside e h k u = go (eq-or-lt_of_le (le_of_suc-le-suc (subst (λ (m : ℕ). k < m) (add-one j) u)))
  where
    go : (k ≡ j) ⊎ (k < j) → get_or (set l j v) k d ≡ f k
    go (inl i) = ap (λ (m : ℕ). get_or (set l j v) m d) i ∙ get_or-set_same l j v d inside ∙ e ∙ ap f (sym i)
    go (inr i) = get_or-set_other l j k v d (λ e2. lt_irrefl k (subst (λ (m : ℕ). k < m) (sym e2) i)) ∙ h k i

-- what lies after it stays as it was
pub rest_kept : {A : Type 0} (d : A) (l old : List A) (j : ℕ) (v : A) → ((k : ℕ) → j ≤ k → get_or l k d ≡ get_or old k d) → (k : ℕ) → j + 1 ≤ k → get_or (set l j v) k d ≡ get_or old k d
rest_kept d l old j v h k u = get_or-set_other l j k v d (λ e. apart k e u) ∙ h k (omega arith)
  where
    apart : (k : ℕ) → k ≡ j → j + 1 ≤ k → ⊥
    apart k e u = omega arith
