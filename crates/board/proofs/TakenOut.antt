-- A superseded entry taken out leaves the same survivors: whatever it supersedes, the one that supersedes it supersedes too. The entries behind it move up by one place, and of the places only their
-- order counts, which is kept. Assumes nothing.
use Prim.Native.Nat.{ℕ, ◌+◌, ◌≤◌, ◌<◌}
use mathlib.Core.Path.{◌≡◌, refl, sym, ap, ap₂, subst, ◌∙◌, fun_ext}
use mathlib.Core.Logic.{◌⊎◌, inl, inr}
use mathlib.Core.Bool.{Bool, true, false, not, cond}
use mathlib.Core.List.Memᴰ
use mathlib.Core.List.{List, [], ◌∷◌, ◌++◌, map, map-map, map-append, Memᴰ}
use native.Mathlib.Omega.{arith}
use borrow.Author.Tests.{lt-ltb, le-ltb}
use lib.Dec.{T, T_not, ltb, ltb→lt, lt→ltb, nltb→le}
use lib.ListN.{length, length-map, length-append}
use lib.IntN.{pos}
use lib.Ieee.{Float}
use lib.Ieee.Bits.{is_true}
use Rattle.common.specs.Numbers.{nought}
use Rattle.common.specs.Rounded.{◌⊘◌}
use Rattle.common.specs.Sums.{sum_from}
use Rattle.float.specs.Conversions.{nearest_of}
use Rattle.common.specs.Lists.{those}
use Rattle.checks.specs.Checks.{any}
use Rattle.common.proofs.Those.{those_no, those-append, those-map}
use Rattle.common.proofs.Tests.{same_test}
use Rattle.checks.proofs.Anys.{any_is, is_any, any_among, any-map}
use Rattle.board.specs.declared.entries.Entry.{Entry}
use Rattle.board.specs.declared.superseding.Placed.{Placed}
use Rattle.board.specs.Superseding.{placed, placed_from, supersedes, superseded_in, survives, survivors_of, survivors}
use Rattle.board.specs.Board.{clock_offset, clock_offsets, most_entries, entry_not_finite, board_offset, board_refusal}
use Rattle.board.proofs.Order.{never_itself, through}
use Rattle.board.proofs.Places.{at, placed-append}
use Rattle.board.proofs.Refusals.{passed_checks, no_refusal}

-- ---- a list with one element more in its middle

module _ {A : Type 0} (xs ys : List A) (x : A) where
  -- what was there stays
  pub still_in : (y : A) → Memᴰ y (xs ++ ys) → Memᴰ y (xs ++ x ∷ ys)
  still_in y m = go (Memᴰ.append_cases xs m)
    where
      go : Memᴰ y xs ⊎ Memᴰ y ys → Memᴰ y (xs ++ x ∷ ys)
      go (inl n) = Memᴰ.append_left (x ∷ ys) n
      go (inr n) = Memᴰ.append_right xs (Memᴰ.tail n)

  -- the rest was there
  pub was_in : (y : A) → Memᴰ y (xs ++ x ∷ ys) → (y ≡ x) ⊎ Memᴰ y (xs ++ ys)
  was_in y m = go (Memᴰ.append_cases xs m)
    where
      behind : (y ≡ x) ⊎ Memᴰ y ys → (y ≡ x) ⊎ Memᴰ y (xs ++ ys)
      behind (inl e) = inl e
      behind (inr n) = inr (Memᴰ.append_right xs n)

      go : Memᴰ y xs ⊎ Memᴰ y (x ∷ ys) → (y ≡ x) ⊎ Memᴰ y (xs ++ ys)
      go (inl n) = inr (Memᴰ.append_left ys n)
      go (inr n) = behind (Memᴰ.cases_cons n)

-- ---- a superseded one taken out

module _ (xs ys : List Placed) (x : Placed) (h : T (superseded_in (xs ++ x ∷ ys) x)) where
  -- another one supersedes it
  other : (y : Placed) × Memᴰ y (xs ++ ys) × T (supersedes y x)
  other = go (any_is (λ q. supersedes q x) (xs ++ x ∷ ys) h)
    where
      not_x : (y : Placed) → T (supersedes y x) → (y ≡ x) ⊎ Memᴰ y (xs ++ ys) → Memᴰ y (xs ++ ys)
      not_x y t (inl e) = absurd (T_not (supersedes x x) (never_itself x) (subst (λ (z : Placed). T (supersedes z x)) e t))
      not_x y t (inr m) = m

      go : (y : Placed) × Memᴰ y (xs ++ x ∷ ys) × T (supersedes y x) → (y : Placed) × Memᴰ y (xs ++ ys) × T (supersedes y x)
      go r = (r.0, not_x r.0 r.2 (was_in xs ys x r.0 r.1), r.2)

  -- what it supersedes, that one supersedes
  same_superseded : (p : Placed) → superseded_in (xs ++ x ∷ ys) p ≡ superseded_in (xs ++ ys) p
  same_superseded p =
      same_test (superseded_in (xs ++ x ∷ ys) p) (superseded_in (xs ++ ys) p)
      (λ t. fewer (any_is (λ q. supersedes q p) (xs ++ x ∷ ys) t))
      (any_among (λ q. supersedes q p) (xs ++ ys) (xs ++ x ∷ ys) (still_in xs ys x))
    where
      by : (y : Placed) → T (supersedes y p) → (y ≡ x) ⊎ Memᴰ y (xs ++ ys) → T (superseded_in (xs ++ ys) p)
      by y t (inl e) = is_any (λ q. supersedes q p) other.0 (xs ++ ys) other.1 (through other.0 x p other.2 (subst (λ (z : Placed). T (supersedes z p)) e t))
      by y t (inr m) = is_any (λ q. supersedes q p) y (xs ++ ys) m t

      fewer : (y : Placed) × Memᴰ y (xs ++ x ∷ ys) × T (supersedes y p) → T (superseded_in (xs ++ ys) p)
      fewer r = by r.0 r.2 (was_in xs ys x r.0 r.1)

  -- so the same survive
  pub same-survivors : survivors_of (xs ++ x ∷ ys) ≡ survivors_of (xs ++ ys)
  same-survivors =
      those-append (survives (xs ++ x ∷ ys)) xs (x ∷ ys)
      ∙ ap (λ (l : List Placed). those (survives (xs ++ x ∷ ys)) xs ++ l) (those_no (survives (xs ++ x ∷ ys)) x ys (ap not (is_true (superseded_in (xs ++ x ∷ ys) x) h)))
      ∙ sym (those-append (survives (xs ++ x ∷ ys)) xs ys)
      ∙ ap (λ (t : Placed → Bool). those t (xs ++ ys)) (fun_ext (λ p. ap not (same_superseded p)))

-- ---- other places in the same order

-- an entry moved to another place
abbrev moved : (ℕ → ℕ) → Placed → Placed
moved f p = record { place = f p.place; entry = p.entry }

module _ (f : ℕ → ℕ) (order : (a b : ℕ) → ltb (f a) (f b) ≡ ltb a b) where
  -- the same supersede
  same-order : (p q : Placed) → supersedes (moved f p) (moved f q) ≡ supersedes p q
  unfolding supersedes
  same-order p q = rw order

  -- so the same survive
  moved-survivors : (ps : List Placed) → survivors_of (map (moved f) ps) ≡ map (moved f) (survivors_of ps)
  moved-survivors ps =
      those-map (survives (map (moved f) ps)) (moved f) ps
      ∙ ap (λ (t : Placed → Bool). map (moved f) (those t ps)) (fun_ext (λ p. ap not (same p)))
    where
      same : (p : Placed) → superseded_in (map (moved f) ps) (moved f p) ≡ superseded_in ps p
      same p = any-map (λ q. supersedes q (moved f p)) (moved f) ps ∙ ap (λ (t : Placed → Bool). any t ps) (fun_ext (λ q. same-order q p))

-- ---- a gap: the places from n on are one higher

-- where the place a is then
abbrev gap : ℕ → ℕ → ℕ
gap n a = cond (ltb a n) a (a + 1)

-- a test of order by the order
same-less : (a b c d : ℕ) → (a < b → c < d) → (c < d → a < b) → ltb a b ≡ ltb c d
same-less a b c d f g = same_test (ltb a b) (ltb c d) (λ t. lt→ltb c d (f (ltb→lt a b t))) (λ t. lt→ltb a b (g (ltb→lt c d t)))

-- the order is kept
gap_order : (n a b : ℕ) → ltb (gap n a) (gap n b) ≡ ltb a b
gap_order n a b = go (ltb a n) (ltb b n) (ltb→lt a n) (nltb→le a n) (ltb→lt b n) (nltb→le b n)
  where
    go : (v w : Bool) → (T v → a < n) → (T (not v) → n ≤ a) → (T w → b < n) → (T (not w) → n ≤ b) → ltb (cond v a (a + 1)) (cond w b (b + 1)) ≡ ltb a b
    go true true f g i j = refl
    go true false f g i j = same-less a (b + 1) a b (λ h. omega (arith, f tt, j tt)) (λ h. omega arith)
    go false true f g i j = same-less (a + 1) b a b (λ h. omega arith) (λ h. omega (arith, g tt, i tt))
    go false false f g i j = same-less (a + 1) (b + 1) a b (λ h. omega arith) (λ h. omega arith)

before_gap : (n a : ℕ) → a < n → gap n a ≡ a
before_gap n a h = rw (lt-ltb a n h)

behind_gap : (n a : ℕ) → n ≤ a → gap n a ≡ a + 1
behind_gap n a h = rw (le-ltb a n h)

-- entries before the gap stay where they are
moved_front : (n k : ℕ) (es : List Entry) → k + length es ≤ n → map (moved (gap n)) (placed_from k es) ≡ placed_from k es
unfolding placed_from
moved_front n k [] h = refl
moved_front n k (e ∷ es) h = rw (before_gap n k (omega arith), moved_front n (k + 1) es (omega arith))

-- and those from it on are one place higher
moved_back : (n k : ℕ) (es : List Entry) → n ≤ k → map (moved (gap n)) (placed_from k es) ≡ placed_from (k + 1) es
unfolding placed_from
moved_back n k [] h = refl
moved_back n k (e ∷ es) h = rw (behind_gap n k h, moved_back n (k + 1) es (omega arith))

-- ---- the answer

-- the board's clock offset is told by those of the survivors alone
by_offsets : (es ds : List Entry) → clock_offsets (survivors es) ≡ clock_offsets (survivors ds) → board_offset es ≡ board_offset ds
unfolding board_offset
by_offsets es ds c = mean_of_lem es ∙ ap mean c ∙ sym (mean_of_lem ds)
  where
    mean : List Float → Float
    mean l = sum_from nought l ⊘ nearest_of (pos (length l))

    mean_of_lem : (es : List Entry) → board_offset es ≡ mean (clock_offsets (survivors es))
    mean_of_lem es = ap (λ (n : ℕ). sum_from nought (clock_offsets (survivors es)) ⊘ nearest_of (pos n)) (sym (length-map (survivors es) clock_offset))

-- the entry that is taken out, at its place
abbrev taken : List Entry → Entry → Placed
taken front e = at (length front) e

module _ (front back : List Entry) (e : Entry) where
  -- the places with the entry
  with_it : placed (front ++ e ∷ back) ≡ placed front ++ taken front e ∷ placed_from (length front + 1) back
  unfolding placed_from
  with_it = placed-append 0 (length front) front (e ∷ back) (omega arith)

  -- and without it
  without_it : map (moved (gap (length front))) (placed (front ++ back)) ≡ placed front ++ placed_from (length front + 1) back
  without_it =
      ap (map (moved (gap (length front)))) (placed-append 0 (length front) front back (omega arith))
      ∙ map-append (moved (gap (length front))) (placed front) (placed_from (length front) back)
      ∙ ap₂ (λ (l m : List Placed). l ++ m) (moved_front (length front) 0 front (omega arith)) (moved_back (length front) (length front) back (omega arith))

  module _ (h : T (superseded_in (placed (front ++ e ∷ back)) (taken front e))) where
    -- the survivors are the same, but for the places behind the gap
    same_but_moved : survivors (front ++ e ∷ back) ≡ map (moved (gap (length front))) (survivors (front ++ back))
    same_but_moved =
        ap survivors_of with_it
        ∙ same-survivors (placed front) (placed_from (length front + 1) back) (taken front e) (subst (λ (ps : List Placed). T (superseded_in ps (taken front e))) with_it h)
        ∙ ap survivors_of (sym without_it)
        ∙ moved-survivors (gap (length front)) (gap_order (length front)) (placed (front ++ back))

    -- so the clock offset is the same
    pub same_offset : board_offset (front ++ back) ≡ board_offset (front ++ e ∷ back)
    same_offset =
        sym (by_offsets (front ++ e ∷ back) (front ++ back)
        (ap clock_offsets same_but_moved ∙ map-map clock_offset (moved (gap (length front))) (survivors (front ++ back))))

-- what is superseded is not alone
pub not_alone : (front back : List Entry) (e : Entry) → T (superseded_in (placed (front ++ e ∷ back)) (taken front e)) → 0 < length (front ++ back)
unfolding placed_from
not_alone [] [] e h = absurd (Memᴰ.not-nil (other [] [] (taken [] e) h).1)
not_alone [] (b ∷ back) e h = omega arith
not_alone (a ∷ front) back e h = omega arith

-- a list that passes the checks passes them without a superseded entry: some entry is left, and no double is new
pub same-refusal : (front back : List Entry) (e : Entry) → board_refusal (front ++ e ∷ back) ≡ 0 → T (superseded_in (placed (front ++ e ∷ back)) (taken front e))
    → board_refusal (front ++ back) ≡ board_refusal (front ++ e ∷ back)
same-refusal front back e r h = no_refusal rest (not_alone front back e h) fewer finite ∙ sym r
  where
    full : List Entry
    full = front ++ e ∷ back

    rest : List Entry
    rest = front ++ back

    passed : (0 < length full) × (length full ≤ most_entries) × (any entry_not_finite full ≡ false)
    passed = passed_checks full r

    fewer : length rest ≤ most_entries
    fewer = omega (arith, passed.1, length-append front (e ∷ back), length-append front back)

    finite : any entry_not_finite rest ≡ false
    finite = same_test (any entry_not_finite rest) false (λ t. subst T passed.2 (any_among entry_not_finite rest full (still_in front back e) t)) absurd
