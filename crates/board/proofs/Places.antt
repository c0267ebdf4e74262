-- The entries of a list with their places: as many, at each place the entry there with that place; the places count up, so each is met once; a test on the entries says
-- the same of both lists. Assumes nothing.
use Prim.Native.Nat.{ℕ, zero, suc, ◌+◌, ◌≤◌, ◌<◌}
use mathlib.Core.Path.{◌≡◌, refl, sym, ap, ◌∙◌}
use mathlib.Core.Logic.{◌⊎◌, inl, inr}
use mathlib.Core.Bool.{Bool, true, false, cond, ◌||◌}
use mathlib.Core.List.Memᴰ
use mathlib.Core.List.{List, [], ◌∷◌, ◌++◌, Memᴰ}
use native.Mathlib.Nat.{add-zero}
use native.Mathlib.Omega.{arith}
use lib.Dec.{T}
use lib.IntN.{pos}
use Rattle.std.specs.List.{enumerate_from}
use lib.Ieee.{nan}
use lib.ListN.{length, get_or}
use Rattle.common.specs.Lists.{those}
use Rattle.common.proofs.Those.{those_none, those_yes, those_no, those_nothing}
use Rattle.checks.specs.Checks.{any}
use Rattle.checks.proofs.Anys.{any-one}
use Rattle.board.specs.declared.entries.Entry.{Entry}
use Rattle.board.specs.declared.superseding.Placed.{Placed}
use Rattle.board.specs.Superseding.{placed_from}

-- what `get_or` gives past a list's end: the one that the borrow checker's terms have, so that they agree by computation
abbrev pub blank : Entry
blank = record {
  satellite = 0;
  instant = record { 0 = pos 0 };
  clock_offset = record { 0 = nan };
  frequency_offset = record { 0 = nan };
  rmse = record { 0 = nan };
}

-- the entry e at place k
abbrev pub at : ℕ → Entry → Placed
at k e = record { place = k; entry = e }

-- as many as entries, and what stands at each place
pub length-placed : (k : ℕ) (es : List Entry) → length (placed_from k es) ≡ length es
unfolding placed_from
length-placed k [] = refl
length-placed k (e ∷ es) = ap suc (length-placed (k + 1) es)

pub get_or-placed : (k : ℕ) (es : List Entry) (j : ℕ) (d : Placed) → j < length es → get_or (placed_from k es) j d ≡ at (k + j) (get_or es j blank)
unfolding placed_from
get_or-placed k [] j d h = absurd (none j h)
  where
    none : (j : ℕ) → j < 0 → ⊥
    none j h = omega arith
get_or-placed k (e ∷ es) zero d h = ap (λ (n : ℕ). at n e) (sym (add-zero k))
get_or-placed k (e ∷ es) (suc j) d h =
    let n : k + 1 + j ≡ k + suc j = omega arith in
    get_or-placed (k + 1) es j d (omega arith) ∙ ap (λ (n : ℕ). at n (get_or es j blank)) n

-- no place is before the first
pub place-from : (p : Placed) (k : ℕ) (es : List Entry) → Memᴰ p (placed_from k es) → k ≤ p.place
unfolding placed_from
place-from p k [] m = absurd (Memᴰ.not-nil m)
place-from p k (e ∷ es) m = go (Memᴰ.cases_cons m) (place-from p (k + 1) es)
  where
    go : (p ≡ at k e) ⊎ Memᴰ p (placed_from (k + 1) es) → (Memᴰ p (placed_from (k + 1) es) → k + 1 ≤ p.place) → k ≤ p.place
    go (inl c) r = omega (arith, ap (λ (q : Placed). q.place) c)
    go (inr n) r = omega (arith, r n)

-- a test on the entries
pub any-placed : (f : Entry → Bool) (k : ℕ) (es : List Entry) → any (λ (p : Placed). f p.entry) (placed_from k es) ≡ any f es
unfolding placed_from
any-placed f k [] = refl
any-placed f k (e ∷ es) = ap (λ (b : Bool). f e || b) (any-placed f (k + 1) es)

-- what at most one place has, one has or none
pub one_or_none : (P : Placed → Bool) (k : ℕ) (es : List Entry)
    → ((p q : Placed) → Memᴰ p (placed_from k es) → Memᴰ q (placed_from k es) → T (P p) → T (P q) → p.place ≡ q.place)
    → length (those P (placed_from k es)) ≡ cond (any P (placed_from k es)) 1 0
unfolding placed_from
one_or_none P k [] f = rw those_none
one_or_none P k (e ∷ es) f =
    go (P x) (λ t. t) (those_yes P x xs) (those_no P x xs) (one_or_none P (k + 1) es (λ p q m n. f p q (Memᴰ.tail m) (Memᴰ.tail n)))
    ∙ ap (λ (b : Bool). cond {A = ℕ} b 1 0) (sym (any-one P x xs))
  where
    x : Placed
    x = at k e

    xs : List Placed
    xs = placed_from (k + 1) es

    -- where x has it, no later place has it
    alone : (q : Placed) → Memᴰ q xs → T (P x) → T (P q) → ⊥
    alone q m t u = omega (arith, f x q (Memᴰ.head refl) (Memᴰ.tail m) t u, place-from q (k + 1) es m)

    go : (v : Bool) → (T v → T (P x)) → (v ≡ true → those P (x ∷ xs) ≡ x ∷ those P xs) → (v ≡ false → those P (x ∷ xs) ≡ those P xs)
        → length (those P xs) ≡ cond (any P xs) 1 0 → length (those P (x ∷ xs)) ≡ cond (v || any P xs) 1 0
    go true t y n r = ap length (y refl) ∙ ap (λ (l : List Placed). suc (length l)) (those_nothing P xs (λ q m u. alone q m (t tt) u))
    go false t y n r = ap length (n refl) ∙ r

-- of a list behind another the places go on at n
pub placed-append : (k n : ℕ) (es ds : List Entry) → k + length es ≡ n → placed_from k (es ++ ds) ≡ placed_from k es ++ placed_from n ds
unfolding placed_from
placed-append k n [] ds h = ap (λ (m : ℕ). placed_from m ds) (omega arith)
placed-append k n (e ∷ es) ds h = ap {B = List Placed} (λ r. at k e ∷ r) (placed-append (k + 1) n es ds (omega arith))

-- the places of a list, as the code counts them
pub any-enumerated : (f : Placed → Bool) (k : ℕ) (es : List Entry) → any (λ (p : ℕ × Entry). f (at p.0 p.1)) (enumerate_from k es) ≡ any f (placed_from k es)
unfolding placed_from
any-enumerated f k [] = refl
any-enumerated f k (e ∷ es) = ap (λ (b : Bool). f (at k e) || b) (any-enumerated f (k + 1) es)
