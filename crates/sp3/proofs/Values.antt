-- The numbers of a line's columns: what a field holds where the line has them and where it does not, how large it is, and a coordinate in metres. A
-- number of 13 digits is a double, so that one division of it by 1000 is rounded once, from the exact value. Assumes nothing.
use mathlib.Core.Path.{◌≡◌, refl, sym, ap, ◌∙◌, subst}
use mathlib.Core.Bool.{Bool, true, false, cond}
use mathlib.Core.List.{List}
use Prim.Native.Nat.{ℕ, suc, ◌+◌, ◌-◌, ◌*◌, ◌^◌, ◌≤◌, ◌<◌}
use native.Mathlib.Nat.{le_trans, lt_of_lt_of_le, mul-pos}
use native.Mathlib.Omega.{arith}
use lib.Dec.{leb, eqb, lit<, lit≤}
use lib.IntN.{pos}
use lib.Pow.{pow_mono}
use lib.ListN.{length, take, drop, length-drop}
use lib.Seq.{length-take-le}
use lib.Ieee.{Float, nan, inf, fin, binary64, up, down, unlike, size, span, climb, units, odd, round, div, neg, of_int}
use lib.Ieee.Back.{round_whole}
use lib.Ieee.Exact.{HasValue}
use lib.Ieee.Fits.{down_pos}
use lib.Ieee.Scale.{round_same}
use borrow.Author.Tests.{le-leb, eq-eqb, ne_eqb, leb-true, eqb-true, eqb-false}
use Rattle.common.specs.Numbers.{nought, thousand}
use Rattle.common.specs.Rounded.{◌⊘◌}
use Rattle.float.specs.Conversions.{nearest_of}
use Rattle.float.specs.Nearness.{IsNearest}
use Rattle.float.proofs.Integers.{neg_round}
use Rattle.float.proofs.NearestFraction.{round-nearest}
use Rattle.decimal.specs.declared.reading.Number.{Number}
use Rattle.std.proofs.Common.{Option, None, Some}
use Rattle.decimal.specs.Reading.{whole_of, decimal_of}
use Rattle.decimal.proofs.Bounds.{whole-small, decimal_small}
use Rattle.sp3.specs.Columns.{columns, whole, pointed, coordinate_end, metres_of}

-- ---- columns
module _ (first last : ℕ) (read : List ℕ → Option Number) (l : List ℕ) where
  here : last ≤ length l → read (take (last + 1 - first) (drop (first - 1) l)) ≡ columns first last read l
  here h = sym (ap (λ (b : Bool). cond b (read (take (last + 1 - first) (drop (first - 1) l))) None) (le-leb last (length l) h))

-- a field that holds a number has its columns
held : (first last : ℕ) (read : List ℕ → Option Number) (l : List ℕ) (n : Number) → columns first last read l ≡ Some n
    → (last ≤ length l) × (read (take (last + 1 - first) (drop (first - 1) l)) ≡ Some n)
held first last read l n e = go (leb last (length l)) refl
  where
    go : (b : Bool) → leb last (length l) ≡ b → (last ≤ length l) × (read (take (last + 1 - first) (drop (first - 1) l)) ≡ Some n)
    go true f = let h = leb-true last (length l) f in (h, here first last read l h ∙ e)
    go false f = absurd (never (sym (ap (λ (b : Bool). cond b (read (take (last + 1 - first) (drop (first - 1) l))) None) f) ∙ e))
      where
        never : None ≡ Some n → ⊥
        never q = let z : ◌≡◌ {A = ℕ} 0 1 = cc in omega arith

-- how many bytes they are
width : (first last w : ℕ) (l : List ℕ) → 1 ≤ first → last + 1 ≡ first + w → last ≤ length l → length (take (last + 1 - first) (drop (first - 1) l)) ≡ w
width first last w l a e h =
    let q : last + 1 - first ≡ w = omega arith in
    length-take-le (last + 1 - first) (drop (first - 1) l) (omega (arith, length-drop (first - 1) l)) ∙ q

-- a whole number of w columns
pub field_small : (first last w : ℕ) (l : List ℕ) (n : Number) → 1 ≤ first → last + 1 ≡ first + w → whole first last l ≡ Some n → n.digits < 10 ^ w
field_small first last w l n a e f =
    let t = take (last + 1 - first) (drop (first - 1) l) in
    let k = held first last (whole_of false) l n f in
    subst (λ (m : ℕ). n.digits < 10 ^ m) (width first last w l a e k.0) (whole-small t false n k.1)

-- a number with its point in one of w + 1 columns
pub pointed-small : (signed : Bool) (first point last w : ℕ) (l : List ℕ) (n : Number) → 1 ≤ first → point ≤ last → last ≡ first + w → pointed signed first point last l ≡ Some n → n.digits < 10 ^ w
pointed-small signed first point last w l n a b e f =
    let t = take (last + 1 - first) (drop (first - 1) l) in
    let k = held first last (decimal_of signed (point - first)) l n f in
    let m : length t ≡ suc w = width first last (suc w) l a (omega arith) k.0 in
    decimal_small t signed (point - first) w n (omega arith) m k.1

pub coordinate_small : (first point last : ℕ) (l : List ℕ) (n : Number) → 1 ≤ first → point ≤ last → last ≡ first + 13 → pointed true first point last l ≡ Some n → n.digits < coordinate_end
coordinate_small first point last l n a b e f = pointed-small true first point last 13 l n a b e f

-- ---- metres
divided : (v : Float) (n : ℕ) → HasValue v false n 1 → v ⊘ thousand ≡ round binary64 false n 1000
unfolding div
divided nan n h = absurd h
divided (inf s) n h = absurd h
divided (fin s m e) n h =
    let z = h.1 in
    ap (λ (t : Bool). round binary64 (unlike t false) (m * up e * 1) (1000 * down e)) h.0
    ∙ round_same binary64 false (m * up e * 1) (1000 * down e) n 1000 (mul-pos (lit< {m = 0} {n = 1000} tt) (down_pos e)) (lit< tt) (cross (m * up e) n (down e) z)
  where
    cross : (a n d : ℕ) → a * 1 ≡ n * d → a * 1 * 1000 ≡ n * (1000 * d)
    cross a n d h = omega arith

pub divided_once : (n : ℕ) → n < coordinate_end → nearest_of (pos n) ⊘ thousand ≡ round binary64 false n 1000
unfolding of_int
divided_once n h = divided (round binary64 false n 1) n (round_whole binary64 false n (omega arith))

pub divided-minus : (n : ℕ) → n < coordinate_end → neg (nearest_of (pos n) ⊘ thousand) ≡ round binary64 true n 1000
divided-minus n h = ap neg (divided_once n h) ∙ neg_round binary64 n 1000

-- rounding nothing gives +0
nothing : round binary64 false 0 1000 ≡ nought
unfolding round units odd size span climb
nothing = refl

module _ (n : Number) where
  pub metres_zero : n.digits ≡ 0 → metres_of n ≡ nought
  metres_zero e = ap (λ (b : Bool). cond b nought (round binary64 n.negative n.digits 1000)) (eq-eqb n.digits 0 e)

  pub metres_other : (n.digits ≡ 0 → ⊥) → metres_of n ≡ round binary64 n.negative n.digits 1000
  metres_other e = ap (λ (b : Bool). cond b nought (round binary64 n.negative n.digits 1000)) (ne_eqb n.digits 0 e)

  -- no double is nearer: rounding gives the nearest, and a zero is exact
  pub metres_nearest : n.digits < coordinate_end → IsNearest binary64 n.digits 1000 (metres_of n)
  metres_nearest h = go (eqb n.digits 0) refl
    where
      some : (s : Bool) → IsNearest binary64 n.digits 1000 (round binary64 s n.digits 1000)
      some s = round-nearest binary64 s n.digits 1000 (lit< tt) (lt_of_lt_of_le h (le_trans (lit≤ {m = 10000000000000} {n = 2 ^ 44} tt) (pow_mono {i = 44} {j = 1023} (lit≤ tt))))

      go : (b : Bool) → eqb n.digits 0 ≡ b → IsNearest binary64 n.digits 1000 (metres_of n)
      go true e =
          let z = eqb-true n.digits 0 e in
          subst (IsNearest binary64 n.digits 1000) (ap (λ (m : ℕ). round binary64 false m 1000) z ∙ nothing ∙ sym (metres_zero z)) (some false)
      go false e = subst (IsNearest binary64 n.digits 1000) (sym (metres_other (eqb-false n.digits 0 e))) (some n.negative)
