-- What a loop over the list has of the entries before a place, with what the others add, is the whole: a survivor adds its clock offset and one to the count, any other entry nothing. At the end
-- none is left, so it has the whole. Assumes nothing.
use mathlib.Core.Path.{◌≡◌, refl, sym, ap, ap₂, ◌∙◌}
use mathlib.Core.Bool.{true, false, not}
use mathlib.Core.List.{List, [], ◌∷◌}
use Prim.Native.Nat.{ℕ, ◌+◌, ◌≤◌, ◌<◌}
use native.Mathlib.Omega.{arith}
use lib.IntN.{pos}
use lib.Ieee.{Float}
use lib.ListN.{length, get_or, drop, drop_of_length-le}
use Rattle.common.specs.Rounded.{◌⊕◌, ◌⊘◌}
use Rattle.common.specs.Numbers.{nought}
use Rattle.common.specs.Sums.{sum_from}
use Rattle.common.specs.Lists.{those}
use Rattle.common.proofs.Sums.{sum_none, sum_more}
use Rattle.common.proofs.Dropped.{dropped}
use Rattle.common.proofs.Those.{those_none, those_yes, those_no}
use Rattle.float.specs.Conversions.{nearest_of}
use Rattle.board.specs.declared.entries.Entry.{Entry}
use Rattle.board.specs.declared.superseding.Placed.{Placed}
use Rattle.board.specs.Superseding.{placed, superseded_in, survives}
use Rattle.board.specs.Board.{clock_offset, clock_offsets, board_offset}
use Rattle.board.proofs.Places.{blank, at, length-placed, get_or-placed}

-- the survivors from the k-th place on
abbrev left_of : List Entry → ℕ → List Placed
left_of es k = those (survives (placed es)) (drop k (placed es))

pub record Tallied (es : List Entry) (k : ℕ) (sum : Float) (survivors : ℕ) : Type 0 where
  pub within : k ≤ length es
  pub fewer : survivors ≤ k
  pub sums : sum_from sum (clock_offsets (left_of es k)) ≡ sum_from nought (clock_offsets (left_of es 0))
  pub counts : survivors + length (left_of es k) ≡ length (left_of es 0)

-- before the first entry
pub none_tallied : (es : List Entry) → Tallied es 0 nought 0
none_tallied es = record { within = omega arith; fewer = omega arith; sums = refl; counts = omega arith }

module _ (es : List Entry) (k : ℕ) (sum : Float) (survivors : ℕ) (t : Tallied es k sum survivors) (l : k < length es) where
  abbrev judged : Placed
  judged = at k (get_or es k blank)

  -- the judged one and those behind it
  left : drop k (placed es) ≡ judged ∷ drop (k + 1) (placed es)
  left =
      let z : 0 + k ≡ k = omega arith in
      dropped (placed es) k (at 0 blank) (omega (arith, length-placed 0 es))
      ∙ ap (λ (p : Placed). p ∷ drop (k + 1) (placed es)) (get_or-placed 0 es k (at 0 blank) l ∙ ap (λ (m : ℕ). at m (get_or es k blank)) z)

  -- a survivor is added
  pub kept_tallied : superseded_in (placed es) judged ≡ false → Tallied es (k + 1) (sum ⊕ clock_offset judged) (survivors + 1)
  kept_tallied h = record {
    within = omega arith;
    fewer = omega (arith, t.fewer);
    sums = sym (ap (λ (ps : List Placed). sum_from sum (clock_offsets ps)) more ∙ sum_more sum (clock_offset judged) (clock_offsets (left_of es (k + 1)))) ∙ t.sums;
    counts = omega (arith, t.counts, ap length more);
  }
    where
      more : left_of es k ≡ judged ∷ left_of es (k + 1)
      more = ap (those (survives (placed es))) left ∙ those_yes (survives (placed es)) judged (drop (k + 1) (placed es)) (ap not h)

  -- another is passed over
  pub passed-tallied : superseded_in (placed es) judged ≡ true → Tallied es (k + 1) sum survivors
  passed-tallied h = record {
    within = omega arith;
    fewer = omega (arith, t.fewer);
    sums = ap (λ (ps : List Placed). sum_from sum (clock_offsets ps)) same ∙ t.sums;
    counts = ap (λ (ps : List Placed). survivors + length ps) same ∙ t.counts;
  }
    where
      same : left_of es (k + 1) ≡ left_of es k
      same = sym (ap (those (survives (placed es))) left ∙ those_no (survives (placed es)) judged (drop (k + 1) (placed es)) (ap not h))

-- after the last, the mean is the board's
pub all_tallied : (es : List Entry) (sum : Float) (survivors : ℕ) → Tallied es (length es) sum survivors → sum ⊘ nearest_of (pos survivors) ≡ board_offset es
unfolding board_offset
all_tallied es sum survivors t = ap₂ ◌⊘◌ whole (ap (λ (n : ℕ). nearest_of (pos n)) count)
  where
    none : left_of es (length es) ≡ []
    none =
        let past : length (placed es) ≤ length es = omega (arith, length-placed 0 es) in
        ap (those (survives (placed es))) (drop_of_length-le (placed es) past) ∙ those_none (survives (placed es))

    whole : sum ≡ sum_from nought (clock_offsets (left_of es 0))
    whole = sym (sum_none sum) ∙ ap (λ (ps : List Placed). sum_from sum (clock_offsets ps)) (sym none) ∙ t.sums

    count : survivors ≡ length (left_of es 0)
    count = omega (arith, t.counts, ap length none)
