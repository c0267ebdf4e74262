-- What is read is what is written, and nothing else: a text of at most 18 columns is read as a number exactly where it is that number written
-- out. Each reading step takes off what the writing put there, and a step that fails leaves no number. Assumes nothing.
use mathlib.Core.Path.{◌≡◌, refl, sym, ap, ◌∙◌, subst}
use mathlib.Core.Bool.{Bool, true, false, cond, ◌&&◌, ◌||◌, not, false≢true}
use mathlib.Core.List.{List, [], ◌∷◌, ◌++◌}
use Prim.Native.Nat.{ℕ, zero, suc, ◌+◌, ◌-◌, ◌*◌, ◌≤◌, ◌<◌}
use native.Mathlib.Omega.{arith}
use lib.Dec.{T, leb, eqb}
use lib.ListN.{length, replicate, take, drop, take-append-drop, length-append, length-drop}
use lib.Seq.{take_at, length-take-le, drop-append-add}
use borrow.Author.Tests.{le-leb, eqb-true, ne_eqb}
use Rattle.std.proofs.Common.{Option, None, Some}
use Rattle.decimal.specs.declared.reading.Number.{Number}
use Rattle.decimal.specs.Reading.{is_digit, after_blanks, digits_behind, some_digits, signed_digits, with_decimals, most_columns, whole_of, decimal_of}
use Rattle.decimal.proofs.Bytes.{digit_yes, digit_bounds}
use Rattle.decimal.specs.Shown.{bytes, Digits, behind, sign, Whole, Decimal}

-- ---- written, then read

digit_read : (d : ℕ) → d < 10 → is_digit (48 + d) ≡ true
digit_read d h = digit_yes (48 + d) (omega arith) (omega arith)

digits_read : (s : Bool) (n : ℕ) (ds : List ℕ) → Digits ds → digits_behind s n (bytes ds) ≡ Some (record { negative = s; digits = behind n ds })
unfolding digits_behind Digits behind
digits_read s n [] h = refl
digits_read s n (d ∷ ds) h =
    let e : 48 + d - 48 ≡ d = omega arith in
    ap (λ (y : Bool). cond y (digits_behind s (n * 10 + (48 + d - 48)) (bytes ds)) None) (digit_read d h.0)
    ∙ ap (λ (k : ℕ). digits_behind s (n * 10 + k) (bytes ds)) e
    ∙ digits_read s (n * 10 + d) ds h.1

blanks_read : (k : ℕ) (t : List ℕ) → after_blanks t ≡ t → after_blanks (replicate k 32 ++ t) ≡ t
unfolding after_blanks
blanks_read zero t e = e
blanks_read (suc k) t e = blanks_read k t e

-- the sign and the digits
signed_read : (signed s : Bool) (d : ℕ) (ds : List ℕ) → Digits (d ∷ ds) → T (not s || signed)
    → (after_blanks (sign s ++ bytes (d ∷ ds)) ≡ sign s ++ bytes (d ∷ ds)) × (signed_digits signed (sign s ++ bytes (d ∷ ds)) ≡ Some (record { negative = s; digits = behind 0 (d ∷ ds) }))
unfolding after_blanks signed_digits some_digits
signed_read true true d ds h a = (refl, digits_read true 0 (d ∷ ds) h)
signed_read false true d ds h a = absurd a
signed_read signed false d ds h a =
    let b : ¬ (48 + d ≡ 32) = λ e. omega arith in
    let c : ¬ (48 + d ≡ 45) = λ e. omega arith in (
      ap (λ (y : Bool). cond y (after_blanks (bytes ds)) ((48 + d) ∷ bytes ds)) (ne_eqb (48 + d) 32 b),
      ap (λ (y : Bool). cond y (some_digits true (bytes ds)) (some_digits false ((48 + d) ∷ bytes ds))) (no_minus signed (ne_eqb (48 + d) 45 c)) ∙ digits_read false 0 (d ∷ ds) h,
    )
  where
    no_minus : (y : Bool) → eqb (48 + d) 45 ≡ false → y && eqb (48 + d) 45 ≡ false
    no_minus true e = e
    no_minus false e = refl

pub whole_read : (signed : Bool) (t : List ℕ) (n : Number) → Whole signed t n → length t ≤ most_columns → whole_of signed t ≡ Some n
whole_read signed t n w h =
    let u = sign n.negative ++ bytes (w.first ∷ w.others) in
    let r = signed_read signed n.negative w.first w.others w.digits w.allowed in
    ap (λ (y : Bool). cond y (signed_digits signed (after_blanks t)) None) (le-leb (length t) most_columns h)
    ∙ ap (λ (x : List ℕ). signed_digits signed (after_blanks x)) w.text
    ∙ ap (signed_digits signed) (blanks_read w.blanks u r.0)
    ∙ r.1
    ∙ ap (λ (v : ℕ). Some (record { negative = n.negative; digits = v })) (sym w.value)

-- ---- read, so written

-- the number of a field, and whether it holds one
abbrev number : Option Number → Number
number (Some n) = n
number None = record { negative = false; digits = 0 }

abbrev holds : Option Number → Bool
holds (Some n) = true
holds None = false

none : {A : Type 0} (n : Number) → None ≡ Some n → A
none n e = absurd (false≢true (ap holds e))

-- digits alone
record Written (s : Bool) (n : ℕ) (t : List ℕ) (m : Number) : Type 0 where
  ds : List ℕ
  are : Digits ds
  text : t ≡ bytes ds
  number_is : m ≡ record { negative = s; digits = behind n ds }

digits-written : (s : Bool) (n : ℕ) (t : List ℕ) (m : Number) → digits_behind s n t ≡ Some m → Written s n t m
unfolding digits_behind Digits behind
digits-written s n [] m e = record { ds = []; are = tt; text = refl; number_is = sym (ap number e) }
digits-written s n (b ∷ t) m e = go (is_digit b) refl (digits-written s (n * 10 + (b - 48)) t m) e
  where
    go : (y : Bool) → is_digit b ≡ y → (digits_behind s (n * 10 + (b - 48)) t ≡ Some m → Written s (n * 10 + (b - 48)) t m)
        → cond y (digits_behind s (n * 10 + (b - 48)) t) None ≡ Some m → Written s n (b ∷ t) m
    go true f rest g =
        let w = rest g in
        let k = digit_bounds b f in
        let q : b ≡ 48 + (b - 48) = omega (arith, k.0) in
        record { ds = (b - 48) ∷ w.ds; are = (omega (arith, k.1), w.are); text = ap (λ (l : List ℕ). b ∷ l) w.text ∙ ap (λ (c : ℕ). c ∷ bytes w.ds) q; number_is = w.number_is }
    go false f rest g = none m g

-- with a first digit
record Numbered (s : Bool) (t : List ℕ) (m : Number) : Type 0 where
  d : ℕ
  ds : List ℕ
  are : Digits (d ∷ ds)
  text : t ≡ bytes (d ∷ ds)
  number_is : m ≡ record { negative = s; digits = behind 0 (d ∷ ds) }

some_written : (s : Bool) (t : List ℕ) (m : Number) → some_digits s t ≡ Some m → Numbered s t m
unfolding some_digits
some_written s [] m e = none m e
some_written s (b ∷ t) m e = go (digits-written s 0 (b ∷ t) m e)
  where
    by_list : (ds : List ℕ) → Digits ds → b ∷ t ≡ bytes ds → m ≡ record { negative = s; digits = behind 0 ds } → Numbered s (b ∷ t) m
    by_list [] a e f = absurd (omega (arith, ap length e))
    by_list (d ∷ ds) a e f = record { d = d; ds = ds; are = a; text = e; number_is = f }

    go : Written s 0 (b ∷ t) m → Numbered s (b ∷ t) m
    go w = by_list w.ds w.are w.text w.number_is

-- perhaps behind a minus
record Signed (signed : Bool) (t : List ℕ) (m : Number) : Type 0 where
  s : Bool
  d : ℕ
  ds : List ℕ
  are : Digits (d ∷ ds)
  allowed : T (not s || signed)
  text : t ≡ sign s ++ bytes (d ∷ ds)
  number_is : m ≡ record { negative = s; digits = behind 0 (d ∷ ds) }

signed-written : (signed : Bool) (t : List ℕ) (m : Number) → signed_digits signed t ≡ Some m → Signed signed t m
unfolding signed_digits
signed-written signed [] m e = none m e
signed-written signed (b ∷ t) m e = go signed (eqb b 45) refl e
  where
    plain : (y : Bool) → some_digits false (b ∷ t) ≡ Some m → Signed y (b ∷ t) m
    plain y e = let w = some_written false (b ∷ t) m e in record { s = false; d = w.d; ds = w.ds; are = w.are; allowed = tt; text = w.text; number_is = w.number_is }

    go : (x y : Bool) → eqb b 45 ≡ y → cond (x && y) (some_digits true t) (some_digits false (b ∷ t)) ≡ Some m → Signed x (b ∷ t) m
    go true true f g =
        let w = some_written true t m g in
        record { s = true; d = w.d; ds = w.ds; are = w.are; allowed = tt; text = ap (λ (c : ℕ). c ∷ t) (eqb-true b 45 f) ∙ ap (λ (l : List ℕ). 45 ∷ l) w.text; number_is = w.number_is }
    go true false f g = plain true g
    go false y f g = plain false g

-- blanks ahead
blanks-written : (t : List ℕ) → (k : ℕ) × (t ≡ replicate k 32 ++ after_blanks t)
unfolding after_blanks
blanks-written [] = (0, refl)
blanks-written (b ∷ t) = go (eqb b 32) refl (blanks-written t)
  where
    go : (y : Bool) → eqb b 32 ≡ y → (k : ℕ) × (t ≡ replicate k 32 ++ after_blanks t) → (k : ℕ) × (b ∷ t ≡ replicate k 32 ++ cond y (after_blanks t) (b ∷ t))
    go true e w = (suc w.0, ap (λ (c : ℕ). c ∷ t) (eqb-true b 32 e) ∙ ap (λ (l : List ℕ). 32 ∷ l) w.1)
    go false e w = (0, refl)

-- a test that must hold, and what it chose
chosen : (y : Bool) (f : Option Number) (n : Number) → cond y f None ≡ Some n → f ≡ Some n
chosen true f n e = e
chosen false f n e = none n e

pub whole-written : (signed : Bool) (t : List ℕ) (n : Number) → whole_of signed t ≡ Some n → Whole signed t n
whole-written signed t n e =
    let w = signed-written signed (after_blanks t) n (chosen (leb (length t) most_columns) (signed_digits signed (after_blanks t)) n e) in
    let b = blanks-written t in
    let p : n.negative ≡ w.s = ap (λ (m : Number). m.negative) w.number_is in
    record {
      blanks = b.0;
      first = w.d;
      others = w.ds;
      digits = w.are;
      allowed = subst (λ (s : Bool). T (not s || signed)) (sym p) w.allowed;
      text = b.1 ∙ ap (λ (l : List ℕ). replicate b.0 32 ++ l) (w.text ∙ ap (λ (s : Bool). sign s ++ bytes (w.d ∷ w.ds)) (sym p));
      value = ap (λ (m : Number). m.digits) w.number_is;
    }

-- ---- the same with a point

pub decimal_read : (signed : Bool) (at : ℕ) (t : List ℕ) (n : Number) → Decimal signed at t n → length t ≤ most_columns → decimal_of signed at t ≡ Some n
unfolding with_decimals
decimal_read signed at t n w h =
    let rest : List ℕ = 46 ∷ bytes w.decimals in
    let l = ap length w.text ∙ length-append w.ahead rest in
    let p : take at t ≡ w.ahead = ap (take at) w.text ∙ take_at w.ahead rest at w.place in
    let z : at ≡ length w.ahead + 0 = omega (arith, w.place) in
    let q : drop at t ≡ rest = ap (drop at) w.text ∙ ap (λ (k : ℕ). drop k (w.ahead ++ rest)) z ∙ drop-append-add w.ahead rest 0 in
    ap (λ (y : Bool). cond y (with_decimals (whole_of signed (take at t)) (drop at t)) None) (le-leb (length t) most_columns h)
    ∙ ap (λ (x : List ℕ). with_decimals (whole_of signed x) (drop at t)) p
    ∙ ap (λ (f : Option Number). with_decimals f (drop at t)) (whole_read signed w.ahead w.whole w.shows (omega (arith, l, h)))
    ∙ ap (with_decimals (Some w.whole)) q
    ∙ digits_read w.whole.negative w.whole.digits w.decimals w.digits
    ∙ ap (λ (v : ℕ). Some (record { negative = w.whole.negative; digits = v })) (sym w.value)
    ∙ ap (λ (s : Bool). Some (record { negative = s; digits = n.digits })) (sym w.sign_of)

pub decimal_written : (signed : Bool) (at : ℕ) (t : List ℕ) (n : Number) → decimal_of signed at t ≡ Some n → Decimal signed at t n
unfolding with_decimals
decimal_written signed at t n e =
    go (whole_of signed (take at t)) (drop at t) refl refl (chosen (leb (length t) most_columns) (with_decimals (whole_of signed (take at t)) (drop at t)) n e)
  where
    go : (f : Option Number) (r : List ℕ) → whole_of signed (take at t) ≡ f → drop at t ≡ r → with_decimals f r ≡ Some n → Decimal signed at t n
    go None r p q g = none n g
    go (Some m) [] p q g = none n g
    go (Some m) (b ∷ r) p q g = by_point (eqb b 46) refl g
      where
        by_point : (y : Bool) → eqb b 46 ≡ y → cond y (digits_behind m.negative m.digits r) None ≡ Some n → Decimal signed at t n
        by_point true f g =
            let w = digits-written m.negative m.digits r n g in
            record {
              ahead = take at t;
              whole = m;
              decimals = w.ds;
              shows = whole-written signed (take at t) m p;
              place = length-take-le at t (omega (arith, sym (ap length q), length-drop at t));
              digits = w.are;
              text = sym (take-append-drop at t) ∙ ap (λ (l : List ℕ). take at t ++ l) (q ∙ ap (λ (c : ℕ). c ∷ r) (eqb-true b 46 f) ∙ ap (λ (l : List ℕ). 46 ∷ l) w.text);
              sign_of = ap (λ (k : Number). k.negative) w.number_is;
              value = ap (λ (k : Number). k.digits) w.number_is;
            }
        by_point false f g = none n g
