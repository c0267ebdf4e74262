-- The laws of the board. The survivors are those of the list that the test keeps. Of each satellite present one survives, since superseding is a strict order, so that some entry of it is
-- superseded by none, and tells any two places of it apart, so that no second is. As often, once, each stands among the satellites present, so these are as many as the survivors. The clock
-- offsets are finite, so no sum is a NaN. A superseded entry taken out leaves the same survivors and the checks passed, so the same answer. Assumes nothing.
use Prim.Native.Nat.{ℕ, ◌≤◌, ◌<◌}
use mathlib.Core.Path.{◌≡◌, sym, ap, ap₂, subst, ◌∙◌}
use mathlib.Core.Bool.{Bool, false, not, cond}
use mathlib.Core.List.{List, [], ◌∷◌, ◌++◌, map, Memᴰ}
use lib.Dec.{T, eqb}
use native.Mathlib.Omega.{arith}
use lib.ListN.{length, length-map}
use lib.IntN.{pos}
use lib.Ieee.{Float, nan}
use lib.Ieee.Positive.{positive}
use Rattle.common.specs.Rounded.{◌⊘◌}
use Rattle.common.specs.Numbers.{nought}
use Rattle.common.specs.Sums.{sum_from}
use Rattle.float.specs.Conversions.{nearest_of}
use Rattle.float.proofs.Comparison.{number}
use Rattle.float.proofs.Numbers.{div_number, count-positive}
use Rattle.common.specs.Lists.{those}
use Rattle.common.specs.Outcome.{outcome}
use Rattle.checks.specs.Checks.{any}
use Rattle.board.specs.declared.entries.Entry.{Entry}
use Rattle.board.specs.declared.superseding.Placed.{Placed}
use Rattle.board.specs.Superseding.{placed, supersedes, superseded_in, survives, survivors}
use Rattle.board.specs.Board.{most_entries, entry_not_finite, clock_offsets, board_refusal, board_offset, fleet_board}
use Rattle.board.specs.Rules.{of_satellite, present, satellites}
use Rattle.common.proofs.Those.{those_are, are_those, those-those, those-map}
use Rattle.checks.proofs.Anys.{none_is, is_none}
use Rattle.board.proofs.Places.{any-placed, one_or_none}
use Rattle.board.proofs.Survivors.{stands, some_stands, stands_once}
use Rattle.board.proofs.Counts.{times, same_length, listed_once}
use Rattle.board.proofs.Refusals.{passed_checks}
use Rattle.board.proofs.Answers.{sum_number, offset_finite, some_survive, no_more}
use Rattle.board.proofs.TakenOut.{same-refusal, same_offset}

-- the survivors are exactly the entries that no entry supersedes
pub survivor_is : (es : List Entry) (p : Placed) → Memᴰ p (survivors es) → Memᴰ p (placed es) × ((q : Placed) → Memᴰ q (placed es) → T (not (supersedes q p)))
survivor_is es p m =
    let r = those_are (survives (placed es)) p (placed es) m in
    (r.0, λ q n. none_is (λ q. supersedes q p) q (placed es) r.1 n)

-- and the other way
pub is_survivor : (es : List Entry) (p : Placed) → Memᴰ p (placed es) → ((q : Placed) → Memᴰ q (placed es) → T (not (supersedes q p))) → Memᴰ p (survivors es)
is_survivor es p m n = are_those (survives (placed es)) p (placed es) m (is_none (λ q. supersedes q p) (placed es) n)

-- "each satellite present has exactly one survivor", and any other none
pub one_survivor : (es : List Entry) → T (not (any entry_not_finite es)) → (s : ℕ) → length (those (of_satellite s) (survivors es)) ≡ cond (present s es) 1 0
one_survivor es f s =
    ap length (those-those (survives (placed es)) (of_satellite s) (placed es))
    ∙ one_or_none (stands (placed es) s) 0 es (stands_once es f s)
    ∙ ap (λ (b : Bool). cond {A = ℕ} b 1 0) (some_stands (placed es) s ∙ any-placed (λ e. eqb e.satellite s) 0 es)

-- each satellite present is listed once, and any other not at all
pub each_once : (es : List Entry) (s : ℕ) → length (those (λ t. eqb t s) (satellites es)) ≡ cond (present s es) 1 0
each_once es s = listed_once es s

-- the count that divides is the number of satellites present
pub count_is : (es : List Entry) → T (not (any entry_not_finite es)) → length (survivors es) ≡ length (satellites es)
count_is es f =
    sym (length-map (survivors es) satellite_of)
    ∙ same_length (map satellite_of (survivors es)) (satellites es) (λ s. how_often s ∙ one_survivor es f s ∙ sym (each_once es s))
  where
    satellite_of : Placed → ℕ
    satellite_of p = p.entry.satellite

    how_often : (s : ℕ) → times s (map satellite_of (survivors es)) ≡ length (those (of_satellite s) (survivors es))
    how_often s = ap length (those-map (λ t. eqb t s) satellite_of (survivors es)) ∙ length-map (those (of_satellite s) (survivors es)) satellite_of

-- so the clock offset is the sum over that number
pub offset_is : (es : List Entry) → T (not (any entry_not_finite es)) → board_offset es ≡ sum_from nought (clock_offsets (survivors es)) ⊘ nearest_of (pos (length (satellites es)))
unfolding board_offset
offset_is es f = ap (λ (n : ℕ). sum_from nought (clock_offsets (survivors es)) ⊘ nearest_of (pos n)) (count_is es f)

-- the clock offset of an answer is never a NaN; it may be infinite
pub never_nan : (es : List Entry) → board_refusal es ≡ 0 → board_offset es ≡ nan → ⊥
unfolding board_offset
never_nan es r e = subst (λ (x : Float). T (number x)) e (div_number (sum_from nought (clock_offsets (survivors es))) (nearest_of (pos (length (survivors es)))) sum count)
  where
    passed : (0 < length es) × (length es ≤ most_entries) × (any entry_not_finite es ≡ false)
    passed = passed_checks es r

    finite : T (not (any entry_not_finite es))
    finite = subst (λ (b : Bool). T (not b)) (sym passed.2) tt

    sum : T (number (sum_from nought (clock_offsets (survivors es))))
    sum = sum_number nought (survivors es) tt (offset_finite es finite)

    some : (es : List Entry) → T (not (any entry_not_finite es)) → 0 < length es → 0 < length (survivors es)
    some [] f h = absurd (omega arith)
    some (d ∷ ds) f h = some_survive d ds (one_survivor (d ∷ ds) f d.satellite)

    count : T (positive (nearest_of (pos (length (survivors es)))))
    count = count-positive (length (survivors es)) (some es finite passed.0) (omega (arith, passed.1, no_more es))

-- the answer does not change when a superseded entry is taken out
pub taken_out : (front back : List Entry) (e : Entry) → board_refusal (front ++ e ∷ back) ≡ 0
    → T (superseded_in (placed (front ++ e ∷ back)) (record { place = length front; entry = e })) → fleet_board (front ++ back) ≡ fleet_board (front ++ e ∷ back)
taken_out front back e r h = ap₂ (λ (n : ℕ) (x : Float). outcome n x) (same-refusal front back e r h) (same_offset front back e h)
