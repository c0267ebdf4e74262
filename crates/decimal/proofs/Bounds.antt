-- A number of w columns is below 10 ^ w, and one with a point among them below 10 ^ (w − 1): each digit takes a column. Assumes nothing.
use mathlib.Core.Path.{◌≡◌, refl, sym, ◌∙◌, subst}
use mathlib.Core.List.{List, [], ◌∷◌}
use Prim.Native.Nat.{ℕ, suc, ◌+◌, ◌-◌, ◌*◌, ◌^◌, ◌≤◌, ◌<◌}
use native.Mathlib.Nat.{lt_of_lt_of_le, pow-suc, pow-le-pow_right}
use native.Mathlib.Numerals.{add-one}
use native.Mathlib.Omega.{arith}
use mathlib.Core.Bool.{Bool, true, false, cond, ◌&&◌}
use lib.Dec.{T, leb, ltb, eqb, ltb→lt, lt→ltb, lit<}
use lib.ListN.{length, take, drop, length-drop}
use lib.Seq.{length-take-le}
use Rattle.std.proofs.Common.{Option, None, Some}
use Rattle.decimal.specs.declared.reading.Number.{Number}
use Rattle.decimal.proofs.Bytes.{digit_bounds, blanks_shorter}
use Rattle.decimal.specs.Reading.{is_digit, after_blanks, digits_behind, some_digits, signed_digits, with_decimals, most_columns, whole_of, decimal_of}

-- one digit more
pub grows : (n k j d : ℕ) → n < 10 ^ k → d < 10 → k + 1 ≡ j → n * 10 + d < 10 ^ j
grows n k j d h l e = subst (λ (y : ℕ). n * 10 + d < 10 ^ y) (sym (add-one k) ∙ e) (omega (arith, pow-suc 10 k))

pub ten_mono : (k j : ℕ) → k ≤ j → 10 ^ k ≤ 10 ^ j
ten_mono k j h = pow-le-pow_right {n = 10} (lit< tt) h

pub ten_pos : (k : ℕ) → 0 < 10 ^ k
ten_pos k = lt_of_lt_of_le {m = 1} (lit< tt) (ten_mono 0 k (omega arith))

-- a number below m, if it is one
abbrev below : ℕ → Option Number → Bool
below m (Some n) = ltb n.digits m
below m None = true

wider : (k j : ℕ) (f : Option Number) → k ≤ j → T (below (10 ^ k) f) → T (below (10 ^ j) f)
wider k j (Some n) h l = lt→ltb n.digits (10 ^ j) (lt_of_lt_of_le (ltb→lt n.digits (10 ^ k) l) (ten_mono k j h))
wider k j None h l = tt

by_test : (m : ℕ) (f : Option Number) (y : Bool) → (y ≡ true → T (below m f)) → T (below m (cond y f None))
by_test m f true h = h refl
by_test m f false h = tt

digit-small : (b : ℕ) → is_digit b ≡ true → b - 48 < 10
digit-small b e = omega (arith, (digit_bounds b e).1)

digits_below : (t : List ℕ) (s : Bool) (n k j : ℕ) → n < 10 ^ k → k + length t ≡ j → T (below (10 ^ j) (digits_behind s n t))
unfolding digits_behind
digits_below [] s n k j h e = lt→ltb n (10 ^ j) (lt_of_lt_of_le h (ten_mono k j (omega arith)))
digits_below (b ∷ t) s n k j h e = by_test (10 ^ j) (digits_behind s (n * 10 + (b - 48)) t) (is_digit b) (λ f. digits_below t s (n * 10 + (b - 48)) (k + 1) j (grows n k (k + 1) (b - 48) h (digit-small b f) refl) (omega arith))

some_below : (t : List ℕ) (s : Bool) → T (below (10 ^ length t) (some_digits s t))
unfolding some_digits
some_below [] s = tt
some_below (b ∷ t) s = digits_below (b ∷ t) s 0 0 (length (b ∷ t)) (lit< tt) (omega arith)

signed_below : (t : List ℕ) (signed : Bool) → T (below (10 ^ length t) (signed_digits signed t))
unfolding signed_digits
signed_below [] signed = tt
signed_below (b ∷ t) signed = go (signed && eqb b 45)
  where
    go : (y : Bool) → T (below (10 ^ length (b ∷ t)) (cond y (some_digits true t) (some_digits false (b ∷ t))))
    go true = wider (length t) (length (b ∷ t)) (some_digits true t) (omega arith) (some_below t true)
    go false = some_below (b ∷ t) false

whole_below : (t : List ℕ) (signed : Bool) → T (below (10 ^ length t) (whole_of signed t))
whole_below t signed =
    let f = signed_digits signed (after_blanks t) in
    by_test (10 ^ length t) f (leb (length t) most_columns) (λ e. wider (length (after_blanks t)) (length t) f (blanks_shorter t) (signed_below (after_blanks t) signed))

-- what a field that holds a number says of it
held : (m : ℕ) (f : Option Number) (n : Number) → f ≡ Some n → T (below m f) → n.digits < m
held m f n e h = ltb→lt n.digits m (subst (λ (g : Option Number). T (below m g)) e h)

pub whole-small : (t : List ℕ) (signed : Bool) (n : Number) → whole_of signed t ≡ Some n → n.digits < 10 ^ length t
whole-small t signed n e = held (10 ^ length t) (whole_of signed t) n e (whole_below t signed)

-- ---- with a point

decimals_below : (f : Option Number) (t : List ℕ) (k j : ℕ) → T (below (10 ^ k) f) → k + length t ≡ suc j → T (below (10 ^ j) (with_decimals f t))
unfolding with_decimals
decimals_below None t k j h e = tt
decimals_below (Some n) [] k j h e = tt
decimals_below (Some n) (b ∷ t) k j h e = by_test (10 ^ j) (digits_behind n.negative n.digits t) (eqb b 46) (λ f. digits_below t n.negative n.digits k j (ltb→lt n.digits (10 ^ k) h) (omega arith))

pub decimal_small : (t : List ℕ) (signed : Bool) (at j : ℕ) (n : Number) → at ≤ length t → length t ≡ suc j → decimal_of signed at t ≡ Some n → n.digits < 10 ^ j
decimal_small t signed at j n h l e =
    let f = whole_of signed (take at t) in
    let k = length-take-le at t h in
    held (10 ^ j) (decimal_of signed at t) n e
    (by_test (10 ^ j) (with_decimals f (drop at t)) (leb (length t) most_columns)
    (λ g. decimals_below f (drop at t) (length (take at t)) j (whole_below (take at t) signed) (omega (arith, k, length-drop at t))))
