-- A text byte by byte: what the readers of blanks, digits, a minus and a point take off its front. Assumes nothing.
use mathlib.Core.Path.{◌≡◌, refl, sym, ap, ◌∙◌}
use mathlib.Core.List.{List, [], ◌∷◌}
use Prim.Native.Nat.{ℕ, suc, ◌+◌, ◌-◌, ◌*◌, ◌≤◌, ◌<◌}
use native.Mathlib.Nat.{le_refl}
use native.Mathlib.Omega.{arith}
use mathlib.Core.Bool.{Bool, true, false, cond, not, ◌&&◌, false≢true}
use lib.Dec.{leb, ltb, eqb}
use lib.ListN.{length, get_or, take, drop, drop_of_length-le, length-drop}
use lib.Seq.{take_all}
use borrow.Author.Tests.{le-leb, eqb-true, leb-true, ltb-false}
use Rattle.std.proofs.Math.Bool.{and-true}
use Rattle.std.proofs.lemmas.List.Sums.{prefix_len-le-length}
use Rattle.common.proofs.Dropped.{dropped}
use Rattle.std.proofs.Common.{Option, None, Some}
use Rattle.std.specs.Cmp.Lexicographic.{pointwise}
use Rattle.std.specs.List.{position_or_len, position}
use Rattle.std.specs.Option.{unwrap_or}
use Rattle.decimal.specs.declared.reading.Number.{Number}
use Rattle.decimal.specs.Reading.{blank, minus, point, is_digit, after_blanks, digits_behind, some_digits, signed_digits, with_decimals}

-- ---- digits

pub digit_yes : (b : ℕ) → 48 ≤ b → b ≤ 57 → is_digit b ≡ true
digit_yes b h l = ap (λ (y : Bool). y && leb b 57) (le-leb 48 b h) ∙ le-leb b 57 l

pub digit_bounds : (b : ℕ) → is_digit b ≡ true → (48 ≤ b) × (b ≤ 57)
digit_bounds b e = go (leb 48 b) (leb b 57) refl refl e
  where
    go : (x y : Bool) → leb 48 b ≡ x → leb b 57 ≡ y → x && y ≡ true → (48 ≤ b) × (b ≤ 57)
    go true true f g h = (leb-true 48 b f, leb-true b 57 g)
    go true false f g h = absurd (false≢true h)
    go false y f g h = absurd (false≢true h)

-- the digits from a place on, by the byte there
pub by_digit : (s : Bool) (n i : ℕ) (t : List ℕ) (y : Bool) → i < length t → is_digit (get_or t i 0) ≡ y
    → digits_behind s n (drop i t) ≡ cond y (digits_behind s (n * 10 + (get_or t i 0 - 48)) (drop (i + 1) t)) None
unfolding digits_behind
by_digit s n i t y h e =
    let further = digits_behind s (n * 10 + (get_or t i 0 - 48)) (drop (i + 1) t) in
    ap (digits_behind s n) (dropped t i 0 h) ∙ ap (λ (z : Bool). cond z further None) e

pub digits_end : (s : Bool) (n i : ℕ) (t : List ℕ) → length t ≤ i → digits_behind s n (drop i t) ≡ Some (record { negative = s; digits = n })
unfolding digits_behind
digits_end s n i t h = ap (digits_behind s n) (drop_of_length-le t h)

-- ---- blanks

-- what passes where blanks are looked for
abbrev pub no_blank : ℕ → Bool
no_blank b = not (eqb b blank)

-- the place that `position` finds, or the end
pub place_found : (p : ℕ → Bool) (t : List ℕ) (r : Option ℕ) (k : ℕ) → r ≡ position p t → k ≡ unwrap_or r (length t) → k ≡ position_or_len p t
place_found p t r k e f = f ∙ ap (λ (o : Option ℕ). unwrap_or o (length t)) e ∙ go (ltb (position_or_len p t) (length t)) refl
  where
    go : (y : Bool) → ltb (position_or_len p t) (length t) ≡ y → unwrap_or (cond y (Some (position_or_len p t)) None) (length t) ≡ position_or_len p t
    go true g = refl
    go false g = omega (arith, ltb-false _ _ g, prefix_len-le-length (λ (x : ℕ). not (p x)) t)

blanks_dropped : (t : List ℕ) → drop (position_or_len no_blank t) t ≡ after_blanks t
unfolding after_blanks
blanks_dropped [] = refl
blanks_dropped (b ∷ t) = go (eqb b blank) (blanks_dropped t)
  where
    k : ℕ
    k = position_or_len no_blank t

    one_more : 1 + k ≡ suc k
    one_more = omega arith

    go : (y : Bool) → drop k t ≡ after_blanks t → drop (cond (not (not y)) (1 + k) 0) (b ∷ t) ≡ cond y (after_blanks t) (b ∷ t)
    go true e = ap (λ (j : ℕ). drop j (b ∷ t)) one_more ∙ e
    go false e = refl

-- what is left behind the place that `position` finds, or the end
pub behind_position : (t : List ℕ) (r : Option ℕ) (k : ℕ) → r ≡ position no_blank t → k ≡ unwrap_or r (length t) → take (length t - k) (drop k t) ≡ after_blanks t
behind_position t r k e f =
    take_all (length t - k) (drop k t) (omega (arith, length-drop k t))
    ∙ ap (λ (j : ℕ). drop j t) (place_found no_blank t r k e f)
    ∙ blanks_dropped t

pub blanks_shorter : (t : List ℕ) → length (after_blanks t) ≤ length t
unfolding after_blanks
blanks_shorter [] = le_refl 0
blanks_shorter (b ∷ t) = go (eqb b blank) (blanks_shorter t)
  where
    go : (y : Bool) → length (after_blanks t) ≤ length t → length (cond y (after_blanks t) (b ∷ t)) ≤ length (b ∷ t)
    go true h = omega arith
    go false h = le_refl (length (b ∷ t))

-- ---- one digit or more, perhaps behind a minus

pub some_first : (s : Bool) (t : List ℕ) → 0 < length t → digits_behind s 0 t ≡ some_digits s t
unfolding some_digits
some_first s [] h = absurd (omega arith)
some_first s (b ∷ t) h = refl

pub some_none : (s : Bool) (t : List ℕ) → length t ≡ 0 → some_digits s t ≡ None
unfolding some_digits
some_none s [] h = refl
some_none s (b ∷ t) h = absurd (omega arith)

-- a text that begins with one byte, and what stands behind it
pub begins_one : (b : ℕ) (t : List ℕ) → pointwise eqb (take 1 t) (b ∷ []) ≡ true → t ≡ b ∷ drop 1 t
begins_one b [] e = absurd (false≢true e)
begins_one b (d ∷ t) e = go (eqb d b) refl e
  where
    go : (y : Bool) → eqb d b ≡ y → y && true ≡ true → d ∷ t ≡ b ∷ t
    go true f g = ap (λ (n : ℕ). n ∷ t) (eqb-true d b f)
    go false f g = absurd (false≢true g)

pub minus_first : (signed : Bool) (t rest : List ℕ)
    → signed ≡ true → pointwise eqb (take 1 t) (minus ∷ []) ≡ true → rest ≡ drop 1 t → some_digits true rest ≡ signed_digits signed t
unfolding signed_digits
minus_first signed t rest s e f =
    let g = begins_one minus t e in
    sym
    (ap (signed_digits signed) g
    ∙ ap (λ (y : Bool). cond y (some_digits true (drop 1 t)) (some_digits false (minus ∷ drop 1 t))) (ap (λ (y : Bool). y && true) s)
    ∙ ap (some_digits true) (sym f))

pub minus_none : (signed : Bool) (t : List ℕ) → pointwise eqb (take 1 t) (minus ∷ []) ≡ false → some_digits false t ≡ signed_digits signed t
unfolding signed_digits some_digits
minus_none signed [] e = refl
minus_none signed (b ∷ t) e = sym (ap (λ (y : Bool). cond y (some_digits true t) (some_digits false (b ∷ t))) (go signed (sym (and-true (eqb b minus)) ∙ e)))
  where
    go : (y : Bool) → eqb b minus ≡ false → y && eqb b minus ≡ false
    go true g = g
    go false g = refl

-- no minus where none may stand
pub unsigned : (signed : Bool) (t : List ℕ) → signed ≡ false → some_digits false t ≡ signed_digits signed t
unfolding signed_digits some_digits
unsigned signed [] s = refl
unsigned signed (b ∷ t) s = ap (λ (y : Bool). cond (y && eqb b minus) (some_digits true t) (some_digits false (b ∷ t))) (sym s)

-- ---- the point, behind a number

pub point_first : (n : Number) (t rest : List ℕ) → pointwise eqb (take 1 t) (point ∷ []) ≡ true → rest ≡ drop 1 t → digits_behind n.negative n.digits rest ≡ with_decimals (Some n) t
unfolding with_decimals
point_first n t rest e f = ap (digits_behind n.negative n.digits) f ∙ sym (ap (with_decimals (Some n)) (begins_one point t e))

pub point_none : (f : Option Number) (t : List ℕ) → pointwise eqb (take 1 t) (point ∷ []) ≡ false → with_decimals f t ≡ None
unfolding with_decimals
point_none None t e = refl
point_none (Some n) [] e = refl
point_none (Some n) (b ∷ t) e = ap (λ (y : Bool). cond y (digits_behind n.negative n.digits t) None) (sym (and-true (eqb b point)) ∙ e)
