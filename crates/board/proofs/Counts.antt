-- Two lists in which every number stands equally often are equally long: the first number of the one stands in the other too, and taken out of both it leaves two such lists.
-- Among the satellites of a list of entries each that is present stands once: one more entry is listed only where its satellite is not present behind it. Assumes nothing.
use Prim.Native.Nat.{ℕ, suc, ◌+◌, ◌<◌}
use mathlib.Core.Path.{◌≡◌, refl, sym, ap, ◌∙◌}
use mathlib.Core.Bool.{Bool, true, false, cond, ◌||◌}
use mathlib.Core.List.{List, [], ◌∷◌}
use native.Mathlib.Omega.{arith}
use borrow.Author.Tests.{eq-eqb}
use lib.Dec.{T, eqb, eqb→eq}
use lib.ListN.{length}
use Rattle.common.specs.Lists.{those}
use Rattle.common.proofs.Those.{those_none, those_yes, those_no}
use Rattle.checks.proofs.Anys.{any_empty, any-one}
use Rattle.board.specs.declared.entries.Entry.{Entry}
use Rattle.board.specs.Rules.{present, satellites}

-- ---- how often a number stands in a list

-- so often
abbrev pub times : ℕ → List ℕ → ℕ
times s l = length (those (λ t. eqb t s) l)

-- in no list
times_none : (s : ℕ) → times s [] ≡ 0
times_none s = ap length (those_none (λ t. eqb t s))

-- one number more
times-one : (s t : ℕ) (l : List ℕ) → times s (t ∷ l) ≡ cond (eqb t s) 1 0 + times s l
times-one s t l = go (eqb t s) (those_yes (λ u. eqb u s) t l) (those_no (λ u. eqb u s) t l)
  where
    go : (v : Bool) → (v ≡ true → those (λ u. eqb u s) (t ∷ l) ≡ t ∷ those (λ u. eqb u s) l) → (v ≡ false → those (λ u. eqb u s) (t ∷ l) ≡ those (λ u. eqb u s) l)
        → times s (t ∷ l) ≡ cond v 1 0 + times s l
    go true y n = omega (arith, ap length (y refl))
    go false y n = omega (arith, ap length (n refl))

-- at itself
times_self : (s : ℕ) (l : List ℕ) → times s (s ∷ l) ≡ suc (times s l)
times_self s l = ap length (those_yes (λ t. eqb t s) s l (eq-eqb s s refl))

-- a list with one number taken out
record Without (x : ℕ) (m : List ℕ) : Type 0 where
  rest : List ℕ
  shorter : length m ≡ suc (length rest)
  as_often : (s : ℕ) → times s m ≡ times s (x ∷ rest)

-- a number that stands in a list can be taken out
take_out : (x : ℕ) (m : List ℕ) → 0 < times x m → Without x m
take_out x [] h = absurd (omega (arith, times_none x))
take_out x (y ∷ m) h = go (eqb y x) (eqb→eq y x) (times-one x y m) (take_out x m)
  where
    go : (v : Bool) → (T v → y ≡ x) → times x (y ∷ m) ≡ cond v 1 0 + times x m → (0 < times x m → Without x m) → Without x (y ∷ m)
    go true e c r = record { rest = m; shorter = refl; as_often = λ s. ap (λ (z : ℕ). times s (z ∷ m)) (e tt) }
    go false e c r =
        let w : Without x m = r (omega arith) in
        record {
          rest = y ∷ w.rest;
          shorter = ap suc w.shorter;
          as_often = λ s. omega (arith, times-one s y m, w.as_often s, times-one s x w.rest, times-one s x (y ∷ w.rest), times-one s y w.rest);
        }

-- where every number stands equally often
pub same_length : (l m : List ℕ) → ((s : ℕ) → times s l ≡ times s m) → length l ≡ length m
same_length [] [] e = refl
same_length [] (y ∷ m) e = absurd (omega (arith, e y, times_none y, times_self y m))
same_length (x ∷ l) m e =
    let w : Without x m = take_out x m (omega (arith, e x, times_self x l)) in
    let r : length l ≡ length w.rest = same_length l w.rest (λ s. omega (arith, e s, w.as_often s, times-one s x l, times-one s x w.rest)) in
    omega (arith, w.shorter)

-- ---- each satellite present once

-- as often as it is present: once or not at all
pub listed_once : (es : List Entry) (s : ℕ) → times s (satellites es) ≡ cond (present s es) 1 0
unfolding satellites
listed_once [] s = times_none s ∙ ap (λ (b : Bool). cond {A = ℕ} b 1 0) (sym (any_empty (λ (e : Entry). eqb e.satellite s)))
listed_once (e ∷ es) s =
    go (present e.satellite es) (eqb e.satellite s) (present s es) (λ t. ap (λ (n : ℕ). present n es) (eqb→eq e.satellite s t)) (listed_once es s) (times-one s e.satellite (satellites es))
    ∙ ap (λ (b : Bool). cond {A = ℕ} b 1 0) (sym (any-one (λ (e : Entry). eqb e.satellite s) e es))
  where
    -- u: the entry's satellite is present behind it; v: it is s; w: s is present behind it
    go : (u v w : Bool) → (T v → u ≡ w) → times s (satellites es) ≡ cond w 1 0 → times s (e.satellite ∷ satellites es) ≡ cond v 1 0 + times s (satellites es)
        → times s (cond u (satellites es) (e.satellite ∷ satellites es)) ≡ cond (v || w) 1 0
    go true true w f r c = r ∙ ap (λ (b : Bool). cond {A = ℕ} b 1 0) (sym (f tt))
    go true false w f r c = r
    go false true w f r c = omega (arith, ap (λ (b : Bool). cond {A = ℕ} b 1 0) (f tt))
    go false false w f r c = omega arith
