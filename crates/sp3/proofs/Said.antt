-- What a line says and what the time system is, by the tests on their bytes. Assumes nothing.
use mathlib.Core.Path.{◌≡◌, refl, sym, ap, ◌∙◌}
use mathlib.Core.Bool.{Bool, true, false, cond, ◌&&◌}
use mathlib.Core.List.{List, [], ◌∷◌}
use Prim.Native.Nat.{ℕ, ◌+◌, ◌-◌, ◌≤◌, ◌<◌}
use native.Mathlib.Omega.{arith}
use lib.Dec.{eqb, ltb}
use lib.ListN.{length, get_or, take, drop, length-drop}
use lib.Seq.{take_all}
use Rattle.std.specs.Cmp.Lexicographic.{pointwise}
use borrow.Author.Tests.{eq-eqb, ne_eqb, lt-ltb, le-ltb}
use Rattle.units.specs.declared.LeapSeconds.{LeapSeconds}
use Rattle.sp3.specs.declared.line.Line.TheVariants.{PassedOver}
use Rattle.sp3.specs.declared.header.TimeSystem.{TimeSystem}
use Rattle.sp3.specs.declared.header.TimeSystem.TheVariants.{Less, Other, Missing}
use Rattle.common.specs.Text.{text}
use Rattle.sp3.specs.Lines.{begins}
use Rattle.sp3.specs.Columns.{epoch_in, position_in, line_of}
use Rattle.sp3.specs.Header.{no_leaps, system_in}
use Rattle.sp3.proofs.Cursor.{begins_is}

-- from column k + 1 to the end
pub tail : (k : ℕ) (l : List ℕ) → take (length l - k) (drop k l) ≡ drop k l
tail k l = take_all (length l - k) (drop k l) (omega (arith, length-drop k l))

module _ (sys : TimeSystem) (sat : List ℕ) where
  pub empty_line : (l : List ℕ) → length l ≡ 0 → PassedOver ≡ line_of sys sat l
  unfolding line_of begins
  empty_line [] h = refl
  empty_line (b ∷ l) h = absurd (omega arith)

  by_first : (b : ℕ) (l : List ℕ) (u v : Bool) → eqb b 42 ≡ u → eqb b 80 ≡ v → line_of sys sat (b ∷ l) ≡ cond (u && true) (epoch_in sys (b ∷ l)) (cond (v && begins sat l) (position_in (b ∷ l)) PassedOver)
  unfolding line_of begins
  by_first b l u v e f =
      ap (λ (w : Bool). cond (w && true) (epoch_in sys (b ∷ l)) (cond (eqb b 80 && begins sat l) (position_in (b ∷ l)) PassedOver)) e
      ∙ ap (λ (w : Bool). cond (u && true) (epoch_in sys (b ∷ l)) (cond (w && begins sat l) (position_in (b ∷ l)) PassedOver)) f

  pub epoch_line : (l : List ℕ) → 0 < length l → get_or l 0 0 ≡ 42 → epoch_in sys l ≡ line_of sys sat l
  epoch_line [] h e = absurd (omega arith)
  epoch_line (b ∷ l) h e = sym (by_first b l true (eqb b 80) (eq-eqb b 42 e) refl)

  pub other_line : (l : List ℕ) → 0 < length l → (get_or l 0 0 ≡ 42 → ⊥) → (get_or l 0 0 ≡ 80 → ⊥) → PassedOver ≡ line_of sys sat l
  other_line [] h e f = absurd (omega arith)
  other_line (b ∷ l) h e f = sym (by_first b l false false (ne_eqb b 42 e) (ne_eqb b 80 f))

  pub position_line : (l : List ℕ) → 0 < length l → get_or l 0 0 ≡ 80 → cond (begins sat (drop 1 l)) (position_in l) PassedOver ≡ line_of sys sat l
  position_line [] h e = absurd (omega arith)
  position_line (b ∷ l) h e = sym (by_first b l false true (ne_eqb b 42 (λ q. (let z : ◌≡◌ {A = ℕ} 80 42 = sym e ∙ q in omega arith))) (eq-eqb b 80 e))

module _ (leaps : LeapSeconds) (l : List ℕ) where
  pub by_tests : (t u v : Bool) → ltb (length l) 12 ≡ t → begins (text "UTC") (drop 9 l) ≡ u → begins (text "GPS") (drop 9 l) ≡ v
      → system_in leaps l ≡ cond t Missing (cond u (Less no_leaps) (cond v (Less leaps) Other))
  unfolding system_in
  by_tests t u v d e f =
      ap (λ (b : Bool). cond b Missing (cond (begins (text "UTC") (drop 9 l)) (Less no_leaps) (cond (begins (text "GPS") (drop 9 l)) (Less leaps) Other))) d
      ∙ ap (λ (b : Bool). cond t Missing (cond b (Less no_leaps) (cond (begins (text "GPS") (drop 9 l)) (Less leaps) Other))) e
      ∙ ap (λ (b : Bool). cond t Missing (cond u (Less no_leaps) (cond b (Less leaps) Other))) f

  pub short_system : length l < 12 → Missing ≡ system_in leaps l
  short_system h = sym (by_tests true (begins (text "UTC") (drop 9 l)) (begins (text "GPS") (drop 9 l)) (lt-ltb (length l) 12 h) refl refl)

  pub by_system : (u v : Bool) → 12 ≤ length l → begins (text "UTC") (drop 9 l) ≡ u → begins (text "GPS") (drop 9 l) ≡ v → system_in leaps l ≡ cond u (Less no_leaps) (cond v (Less leaps) Other)
  by_system u v h e f = by_tests false u v (le-ltb (length l) 12 h) e f

-- the three columns of the time system begin with three bytes where the line does from column 10 on
pub columns_begin : (p l t : List ℕ) {b y : Bool} → length p ≡ 3 → t ≡ take 3 (drop 9 l) → length t + 9 ≡ 12 → b ≡ pointwise eqb p (take (length p) t) → b ≡ y
    → begins p (drop 9 l) ≡ y
columns_begin p l t e f g h k =
    sym (begins_is p (drop 9 l))
    ∙ ap (λ (n : ℕ). pointwise eqb p (take n (drop 9 l))) e
    ∙ ap (pointwise eqb p) (sym f ∙ sym (take_all (length p) t (omega arith)))
    ∙ sym h
    ∙ k
