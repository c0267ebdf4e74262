-- February is tested for itself; at the others the list is compared, month by month. Assumes nothing.
use mathlib.Core.Path.{◌≡◌, refl}
use mathlib.Core.Bool.{Bool, true, false, ◌||◌}
use mathlib.Core.List.{[], ◌∷◌}
use mathlib.Core.Logic.{inl, inr}
use Prim.Native.Nat.{ℕ, zero, suc, ◌≤◌, ◌<◌}
use borrow.Author.Tests.{eqb-true}
use lib.Dec.{T, eqb}
use mir.Val.{has_key}
use types.Run.{OneOf, hit}
use native.Mathlib.Omega.{arith}
use Rattle.std.proofs.Common.{rules}
use Rattle.calendar.specs.Gregorian.{days_of_month}
use Rattle.calendar.proofs.Months.{every, at}
use Rattle.calendar.proofs.gregorian.month_length.Goals as goal

thirty : (l : Bool) (m : ℕ) → OneOf (4 ∷ 6 ∷ 9 ∷ 11 ∷ []) m → 30 ≡ days_of_month l m
thirty l m (inl e) = rw e
thirty l m (inr (inl e)) = rw e
thirty l m (inr (inr (inl e))) = rw e
thirty l m (inr (inr (inr e))) = rw e

-- February, a month of 30 days, or one of 31
sorted : Bool → ℕ → Bool
sorted l m = has_key (2 ∷ []) (suc m) || (has_key (4 ∷ 6 ∷ 9 ∷ 11 ∷ []) (suc m) || eqb 31 (days_of_month l (suc m)))

all_sorted : (l : Bool) → every 12 (sorted l) ≡ true
unfolding every sorted
all_sorted true = refl
all_sorted false = refl

third : (a b d : Bool) → a || (b || d) ≡ true → (T a → ⊥) → (T b → ⊥) → d ≡ true
third true b d t f g = absurd (f tt)
third false true d t f g = absurd (g tt)
third false false d t f g = t

thirty_one : (l : Bool) (m : ℕ) → m < 12 → (OneOf (2 ∷ []) (suc m) → ⊥) → (OneOf (4 ∷ 6 ∷ 9 ∷ 11 ∷ []) (suc m) → ⊥) → 31 ≡ days_of_month l (suc m)
unfolding sorted
thirty_one l m h f g =
    eqb-true 31 (days_of_month l (suc m))
    (third (has_key (2 ∷ []) (suc m)) (has_key (4 ∷ 6 ∷ 9 ∷ 11 ∷ []) (suc m)) (eqb 31 (days_of_month l (suc m))) (at 12 (sorted l) (all_sorted l) m h)
    (λ t. f (hit (2 ∷ []) (suc m) t)) (λ t. g (hit (4 ∷ 6 ∷ 9 ∷ 11 ∷ []) (suc m) t)))

rest : (l : Bool) (m : ℕ) → 1 ≤ m → m ≤ 12 → (OneOf (2 ∷ []) m → ⊥) → (OneOf (4 ∷ 6 ∷ 9 ∷ 11 ∷ []) m → ⊥) → 31 ≡ days_of_month l m
rest l (suc m) h k f g = thirty_one l m k f g
rest l zero h k f g = absurd (omega arith)

pub returns-in-4 : goal.returns-in-4
returns-in-4 c = thirty c.args.leap c.args.month c.in-4.is

pub returns-in_default : goal.returns-in_default
returns-in_default c = search (rules, rest)
