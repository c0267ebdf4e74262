-- The formula for the days before a month, at every month of a year of either kind: a test that antt computes. Assumes nothing.
use mathlib.Core.Path.{◌≡◌, refl, ap, ◌∙◌}
use mathlib.Core.Bool.{Bool, true, false, ◌&&◌}
use Prim.Native.Nat.{ℕ, zero, suc, ◌*◌, ◌-◌, ◌/◌, ◌≤◌, ◌<◌}
use native.Mathlib.Omega.{arith}
use borrow.Author.Tests.{eqb-true, eqb-false, leb-true, le-leb, lt-leb}
use lib.Dec.{eqb, leb}
use Rattle.calendar.specs.Gregorian.{sum, days_of_month, days_before}
use Rattle.calendar.specs.Formulas.{behind, months_in_days}
use Rattle.calendar.proofs.Tests.{both}

-- the test p passes at every number below n
unfoldable pub every : ℕ → (ℕ → Bool) → Bool
every zero p = true
every (suc n) p = p n && every n p

pub at : (n : ℕ) (p : ℕ → Bool) → every n p ≡ true → (k : ℕ) → k < n → p k ≡ true
unfolding every
at zero p t k h = absurd (omega arith)
at (suc n) p t k h = go (at n p (both (p n) (every n p) t).1 k) (eqb k n) refl
  where
    go : (k < n → p k ≡ true) → (v : Bool) → eqb k n ≡ v → p k ≡ true
    go below true e = ap p (eqb-true k n e) ∙ (both (p n) (every n p) t).0
    go below false e = below (omega (arith, eqb-false k n e))

-- ---- the days before a month, and of a month

counted : Bool → ℕ → Bool
counted l m = eqb (days_before l (suc m)) (months_in_days l (suc m)) && leb (days_of_month l (suc m)) 31

all_months : (l : Bool) → every 12 (counted l) ≡ true
unfolding every counted sum
all_months true = refl
all_months false = refl

pub month_counted : (l : Bool) (month : ℕ) → 1 ≤ month → month ≤ 12 → (days_before l month ≡ months_in_days l month) × (days_of_month l month ≤ 31)
unfolding counted
month_counted l (suc m) h k =
    let t = both (eqb (days_before l (suc m)) (months_in_days l (suc m))) (leb (days_of_month l (suc m)) 31) (at 12 (counted l) (all_months l) m k) in
    (eqb-true (days_before l (suc m)) (months_in_days l (suc m)) t.0, leb-true (days_of_month l (suc m)) 31 t.1)
month_counted l zero h k = absurd (omega arith)

-- ---- the formula as the code goes through it

pub behind-small : (l : Bool) → behind l ≤ 2
behind-small true = omega arith
behind-small false = omega arith

pub months-early : (l : Bool) (month : ℕ) → month ≤ 2 → (367 * month - 362) / 12 ≡ months_in_days l month
months-early l month h = rw (le-leb month 2 h) (omega arith)

pub months_late : (l : Bool) (month b : ℕ) → b ≡ behind l → 2 < month → (367 * month - 362) / 12 - b ≡ months_in_days l month
months_late l month b e h = rw (← e, lt-leb month 2 h)
