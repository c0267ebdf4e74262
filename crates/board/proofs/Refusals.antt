-- The refusals in their order, by the laws of the first check that fails: 14, then 15, and none where both checks pass. Assumes nothing.
use mathlib.Core.Path.{◌≡◌, sym, ◌∙◌}
use mathlib.Core.Bool.{true, false}
use mathlib.Core.Logic.{◌⊎◌, inl, inr}
use mathlib.Core.List.{List, [], ◌∷◌}
use Prim.Native.Nat.{ℕ, ◌≤◌, ◌<◌}
use native.Mathlib.Omega.{arith}
use borrow.Author.Tests.{ltb-false, eqb-false, eq-eqb, ne_eqb, lt-ltb, le-ltb}
use lib.Dec.{ltb, eqb}
use lib.ListN.{length}
use Rattle.checks.specs.Checks.{any}
use Rattle.checks.specs.Entries.{check, first_failing}
use Rattle.checks.proofs.First.{first-fails, first_passes, none_fails, passes_first, neither}
use Rattle.board.specs.declared.entries.Entry.{Entry}
use Rattle.board.specs.Board.{most_entries, entries_miscounted, entry_not_finite, board_refusal}

pub well_counted : (n : ℕ) → (n ≡ 0 → ⊥) → n ≤ most_entries → entries_miscounted n ≡ false
well_counted n h k = rw (ne_eqb n 0 h, le-ltb most_entries n k)

-- ---- the refusals in their order

pub miscounted : (n : ℕ) → (n ≡ 0) ⊎ (most_entries < n) → entries_miscounted n ≡ true
miscounted n (inl h) = rw (eq-eqb n 0 h)
miscounted n (inr h) = rw (lt-ltb most_entries n h, ne_eqb n 0 (λ (e : n ≡ 0). omega arith))

pub miscounted_first : (es : List Entry) → (length es ≡ 0) ⊎ (most_entries < length es) → 14 ≡ board_refusal es
miscounted_first es h = sym (first-fails (check 14 (entries_miscounted (length es))) _ (miscounted (length es) h))

pub not_finite_first : (es : List Entry) → 0 < length es → length es ≤ most_entries → any entry_not_finite es ≡ true → 15 ≡ board_refusal es
not_finite_first es h k f =
    sym (first_passes (check 14 (entries_miscounted (length es))) _ (well_counted (length es) (λ c. omega arith) k) ∙ first-fails (check 15 (any entry_not_finite es)) _ f)

-- ---- no refusal

-- the entries are neither too few nor too many, and their doubles finite
pub passed_checks : (es : List Entry) → board_refusal es ≡ 0 → (0 < length es) × (length es ≤ most_entries) × (any entry_not_finite es ≡ false)
passed_checks es r = (omega (arith, eqb-false (length es) 0 counts.0), ltb-false most_entries (length es) counts.1, second.0)
  where
    first : (entries_miscounted (length es) ≡ false) × (first_failing (check 15 (any entry_not_finite es) ∷ []) ≡ 0)
    first = passes_first 14 (entries_miscounted (length es)) (check 15 (any entry_not_finite es) ∷ []) (λ c. omega arith) r

    second : (any entry_not_finite es ≡ false) × (first_failing [] ≡ 0)
    second = passes_first 15 (any entry_not_finite es) [] (λ c. omega arith) first.1

    counts : (eqb (length es) 0 ≡ false) × (ltb most_entries (length es) ≡ false)
    counts = neither (eqb (length es) 0) (ltb most_entries (length es)) first.0

-- and the other way
pub no_refusal : (es : List Entry) → 0 < length es → length es ≤ most_entries → any entry_not_finite es ≡ false → board_refusal es ≡ 0
no_refusal es h k f =
    first_passes (check 14 (entries_miscounted (length es))) _ (well_counted (length es) (λ c. omega arith) k)
    ∙ first_passes (check 15 (any entry_not_finite es)) _ f
    ∙ none_fails
