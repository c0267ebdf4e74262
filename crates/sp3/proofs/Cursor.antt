-- Lines taken one after the other: the first ends at the first line feed, and those behind it are the lines of what stands behind the feed. What a
-- line begins with. Assumes nothing.
use mathlib.Core.Path.{◌≡◌, refl, sym, ap, ◌∙◌}
use mathlib.Core.Bool.{Bool, true, false, cond, not, ◌&&◌}
use mathlib.Core.List.{List, [], ◌∷◌}
use Prim.Native.Nat.{ℕ, suc, ◌+◌, ◌-◌, ◌≤◌, ◌<◌}
use native.Mathlib.Omega.{arith}
use lib.Dec.{eqb}
use lib.ListN.{length, take, drop, length-drop}
use lib.Seq.{drop-drop, take_all}
use borrow.Author.Tests.{eq-eqb, ne_eqb, eqb-true, eqb-false}
use Rattle.std.proofs.Common.{Option, None, Some, Bor, MatchOption, ◌⊎◌, inl, inr}
use Rattle.std.specs.List.{slice_range}
use Rattle.std.specs.Cmp.Lexicographic.{pointwise}
use Rattle.std.specs.List.{position_or_len, position}
use Rattle.std.specs.Option.{unwrap_or}
use Rattle.decimal.proofs.Bytes.{place_found}
use Rattle.sp3.specs.Lines.{line_feed, onto, lines, begins}

-- what passes where the end of a line is looked for
abbrev pub is_feed : ℕ → Bool
is_feed b = eqb b line_feed

-- how many bytes stand ahead of the first line feed
abbrev pub ending : List ℕ → ℕ
ending [] = 0
ending (b ∷ bs) = cond (eqb b line_feed) 0 (suc (ending bs))

ending_is : (bs : List ℕ) → position_or_len is_feed bs ≡ ending bs
ending_is [] = refl
ending_is (b ∷ bs) = go (eqb b line_feed) (omega (arith, ending_is bs))
  where
    k : ℕ
    k = position_or_len is_feed bs

    go : (y : Bool) → 1 + k ≡ suc (ending bs) → cond (not y) (1 + k) 0 ≡ cond y 0 (suc (ending bs))
    go true e = refl
    go false e = e

-- the first line of some bytes, and the lines behind it
pub lines-first : (b : ℕ) (bs : List ℕ) → lines (b ∷ bs) ≡ take (ending (b ∷ bs)) (b ∷ bs) ∷ lines (drop (suc (ending (b ∷ bs))) (b ∷ bs))
unfolding lines
lines-first b [] = go (eqb b 10)
  where
    go : (y : Bool) → cond y ([] ∷ []) ((b ∷ []) ∷ []) ≡ take (cond y 0 (suc 0)) (b ∷ []) ∷ lines (drop (suc (cond y 0 (suc 0))) (b ∷ []))
    go true = refl
    go false = refl
lines-first b (d ∷ bs) = go (eqb b 10) (lines-first d bs)
  where
    go : (y : Bool) → lines (d ∷ bs) ≡ take (ending (d ∷ bs)) (d ∷ bs) ∷ lines (drop (suc (ending (d ∷ bs))) (d ∷ bs)) → cond y ([] ∷ lines (d ∷ bs)) (onto b (lines (d ∷ bs)))
        ≡ take (cond y 0 (suc (ending (d ∷ bs)))) (b ∷ d ∷ bs) ∷ lines (drop (suc (cond y 0 (suc (ending (d ∷ bs))))) (b ∷ d ∷ bs))
    go true i = refl
    go false i = ap (onto b) i

pub lines_none : (bs : List ℕ) → length bs ≡ 0 → lines bs ≡ []
unfolding lines
lines_none [] h = refl
lines_none (b ∷ bs) h = absurd (omega arith)

-- the same, by the place that `position` finds, or the end
pub next_line : (bs rest : List ℕ) (r : Option ℕ) (k : ℕ) → 0 < length bs → r ≡ position is_feed bs → k ≡ unwrap_or r (length bs) → rest ≡ drop 1 (drop k bs)
    → lines bs ≡ take k bs ∷ lines rest
next_line [] rest r k h e f g = absurd (omega arith)
next_line (b ∷ bs) rest r k h e f g =
    let q = place_found is_feed (b ∷ bs) r k e f ∙ ending_is (b ∷ bs) in
    let j : k + 1 ≡ suc k = omega arith in
    lines-first b bs ∙ ap (λ (n : ℕ). take n (b ∷ bs) ∷ lines (drop (suc n) (b ∷ bs))) (sym q) ∙ ap (λ (t : List ℕ). take k (b ∷ bs) ∷ lines t) (sym (g ∙ drop-drop 1 k (b ∷ bs) ∙ ap (λ (n : ℕ). drop n (b ∷ bs)) j))

-- what `get(1..)` leaves of what stands from the line feed on, or of the end
pub feed_dropped : (t : List ℕ) (g : Option (Bor (List ℕ))) (d : Bor (List ℕ)) → d.now ≡ t
    → MatchOption g ((length t < 1) ⊎ (length t < length t)) (λ x. (1 ≤ length t) × (length t ≤ length t) × (x.now ≡ slice_range t 1 (length t)) × (length x.now + 1 ≡ length t))
    → (unwrap_or g d).now ≡ drop 1 t
feed_dropped [] None d e h = e
feed_dropped (b ∷ t) None d e (inl h) = absurd (omega arith)
feed_dropped (b ∷ t) None d e (inr h) = absurd (omega arith)
feed_dropped t (Some x) d e h = h.2 ∙ take_all (length t - 1) (drop 1 t) (omega (arith, length-drop 1 t))

-- each line takes a byte or more
pub lines_few : (bs : List ℕ) → length (lines bs) ≤ length bs
unfolding lines
lines_few [] = omega arith
lines_few (b ∷ bs) = go (eqb b line_feed) (lines bs) (lines_few bs)
  where
    go : (y : Bool) (ls : List (List ℕ)) → length ls ≤ length bs → length (cond y ([] ∷ ls) (onto b ls)) ≤ suc (length bs)
    go true ls h = omega arith
    go false [] h = omega arith
    go false (l ∷ ls) h = omega arith

turned : (b d : ℕ) → eqb b d ≡ eqb d b
turned b d = go (eqb d b) refl
  where
    go : (y : Bool) → eqb d b ≡ y → eqb b d ≡ y
    go true e = eq-eqb b d (sym (eqb-true d b e))
    go false e = ne_eqb b d (λ q. eqb-false d b e (sym q))

-- ---- what a line begins with, as the library tests it
pub begins_is : (p l : List ℕ) → pointwise eqb p (take (length p) l) ≡ begins p l
unfolding begins
begins_is [] l = refl
begins_is (b ∷ p) [] = refl
begins_is (b ∷ p) (d ∷ l) = ap (λ (y : Bool). y && pointwise eqb p (take (length p) l)) (turned b d) ∙ ap (λ (y : Bool). eqb d b && y) (begins_is p l)
