-- A number with its point at a place, part by part: the text has no such place, no number stands before it, another byte stands there, or decimals
-- stand behind it. Assumes nothing.
use Rattle.std.proofs.Common.{◌≡◌, ◌≤◌, ◌<◌, ◌-◌, ◌^◌, ℕ, Bool, true, false, cond, List, [], ◌∷◌, length, take, drop, Option, None, Some, refl, sym, ap, ◌∙◌, arith, eqb}
use native.Mathlib.Nat.{lt_of_lt_of_le}
use lib.ListN.{drop_of_length-le, length-take, length-drop}
use borrow.Author.Tests.{le-leb}
use Rattle.std.specs.Cmp.Lexicographic.{pointwise}
use Rattle.decimal.specs.declared.reading.Number.{Number}
use Rattle.decimal.specs.Reading.{most_columns, point, digits_behind, with_decimals, whole_of, decimal_of}
use Rattle.decimal.proofs.Bytes.{point_first, point_none}
use Rattle.decimal.proofs.Bounds.{ten_mono, whole-small}

-- the definition at a text whose columns fit, by the whole number before the point
module _ (signed : Bool) (at : ℕ) (t : List ℕ) (h : length t ≤ most_columns) where
  by_whole : (f : Option Number) → whole_of signed (take at t) ≡ f → decimal_of signed at t ≡ with_decimals f (drop at t)
  by_whole f e =
      ap (λ (y : Bool). cond y (with_decimals (whole_of signed (take at t)) (drop at t)) None) (le-leb (length t) most_columns h)
      ∙ ap (λ (g : Option Number). with_decimals g (drop at t)) e

  pub past : length t < at → decimal_of signed at t ≡ None
  past l =
      by_whole _ refl
      ∙ ap (with_decimals (whole_of signed (take at t))) (drop_of_length-le t (omega arith))
      ∙ point_none (whole_of signed (take at t)) [] refl

  pub no_whole : (whole : List ℕ) → whole ≡ take at t → None ≡ whole_of signed whole → decimal_of signed at t ≡ None
  unfolding with_decimals
  no_whole whole w e = by_whole None (ap (whole_of signed) (sym w) ∙ sym e)

  pub no_point : (rest : List ℕ) → rest ≡ drop at t → pointwise eqb (take 1 rest) (point ∷ []) ≡ false → decimal_of signed at t ≡ None
  no_point rest r e = by_whole _ refl ∙ point_none (whole_of signed (take at t)) (drop at t) (rw (sym r) e)

  pub pointed : (n : Number) (whole rest decimals : List ℕ) → whole ≡ take at t → rest ≡ drop at t → Some n ≡ whole_of signed whole
      → pointwise eqb (take 1 rest) (point ∷ []) ≡ true → decimals ≡ drop 1 rest
      → digits_behind n.negative n.digits decimals ≡ decimal_of signed at t
  pointed n whole rest decimals w r e f g = point_first n (drop at t) decimals (rw (sym r) f) (rw (sym r) g) ∙ sym (by_whole (Some n) (ap (whole_of signed) (sym w) ∙ sym e))

-- what stands before the point leaves room for the decimals
pub room : (signed : Bool) (at : ℕ) (t whole rest decimals : List ℕ) (n : Number) → length t ≤ most_columns
    → whole ≡ take at t → rest ≡ drop at t → Some n ≡ whole_of signed whole → decimals ≡ drop 1 rest → n.digits < 10 ^ (most_columns - length decimals)
room signed at t whole rest decimals n h w r e d =
    lt_of_lt_of_le (whole-small whole signed n (sym e))
    (ten_mono (length whole) (most_columns - length decimals) (omega (arith, h, ap length w, length-take at t, ap length r, length-drop at t, ap length d, length-drop 1 rest)))
