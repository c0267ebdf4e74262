-- The closed form of the days of n years is the sum over the years. Assumes nothing.
use mathlib.Core.Path.{◌≡◌, refl, sym, ap, ◌∙◌}
use mathlib.Core.Bool.{Bool, true, false, not, ◌&&◌, ◌||◌}
use Prim.Native.Nat.{ℕ, zero, suc, ◌+◌, ◌*◌, ◌-◌, ◌/◌, ◌%◌, ◌≤◌, ◌<◌}
use native.Mathlib.Nat.{mod-lt, div-add-mod, mul-add-div, mul-add-mod_self_left, div-eq_of_lt, mod-eq_of_lt, div_self, mod_self}
use native.Mathlib.Omega.{arith}
use borrow.Author.Tests.{eqb-true, eqb-false, ne_eqb, ltb-true, ltb-false}
use lib.Dec.{eqb, ltb, lit<}
use Rattle.calendar.specs.Gregorian.{leap, months, sum, days_of_years}
use Rattle.calendar.specs.Formulas.{years_in_days}

unfoldable one_if : Bool → ℕ
one_if true = 1
one_if false = 0

at_most_one : (l : Bool) → one_if l ≤ 1
unfolding one_if
at_most_one true = omega arith
at_most_one false = omega arith

year_length : (l : Bool) → sum (months l) ≡ 365 + one_if l
unfolding sum one_if
year_length true = refl
year_length false = refl

-- ---- the quotient grows by one at each multiple

once : (k s : ℕ) → 0 < k → 0 < s → s ≤ k → s / k ≡ one_if (eqb (s % k) 0)
unfolding one_if
once k s h g w = go (ltb s k) refl
  where
    go : (v : Bool) → ltb s k ≡ v → s / k ≡ one_if (eqb (s % k) 0)
    go true e = let l = ltb-true s k e in rw (div-eq_of_lt l, mod-eq_of_lt l, ne_eqb s 0 (omega arith))
    go false e = let i : s ≡ k = omega (arith, ltb-false s k e) in rw (i, div_self h, mod_self k)

next_quotient : (k n : ℕ) → 0 < k → suc n / k ≡ n / k + one_if (eqb (suc n % k) 0)
next_quotient k n h =
    let e : suc n ≡ k * (n / k) + suc (n % k) = omega (arith, div-add-mod n k) in
    rw (e, mul-add-div h (n / k) (suc (n % k)), mul-add-mod_self_left k (n / k) (suc (n % k)))
    (ap (λ (x : ℕ). n / k + x) (once k (suc (n % k)) h (omega arith) (omega (arith, mod-lt n h))))

-- the three tests that make a leap year add up: a multiple of 400 is one of 100, and that one of 4
adds_up : (y : ℕ) (p q r : Bool) → eqb (y % 4) 0 ≡ p → eqb (y % 100) 0 ≡ q → eqb (y % 400) 0 ≡ r → one_if p + one_if r ≡ one_if q + one_if (p && (not q || r))
unfolding one_if
adds_up y true true true e f g = refl
adds_up y true true false e f g = refl
adds_up y true false true e f g = absurd (omega (arith, eqb-false (y % 100) 0 f, eqb-true (y % 400) 0 g))
adds_up y true false false e f g = refl
adds_up y false true true e f g = absurd (omega (arith, eqb-false (y % 4) 0 e, eqb-true (y % 400) 0 g))
adds_up y false true false e f g = absurd (omega (arith, eqb-false (y % 4) 0 e, eqb-true (y % 100) 0 f))
adds_up y false false true e f g = absurd (omega (arith, eqb-false (y % 4) 0 e, eqb-true (y % 400) 0 g))
adds_up y false false false e f g = refl

-- ---- the closed form

sums : (n p q r i j k l s : ℕ) → q ≤ p → j ≤ 1 → i + k ≡ j + l → s ≡ 365 + l → 365 * suc n + (p + i) - (q + j) + (r + k) ≡ 365 * n + p - q + r + s
sums n p q r i j k l s h g e f = omega arith

one_more : (n : ℕ) → years_in_days (suc n) ≡ years_in_days n + sum (months (leap (suc n)))
unfolding leap
one_more n =
    let p = eqb (suc n % 4) 0 in
    let q = eqb (suc n % 100) 0 in
    let r = eqb (suc n % 400) 0 in
    let l = p && (not q || r) in
    rw (next_quotient 4 n (lit< tt), next_quotient 100 n (lit< tt), next_quotient 400 n (lit< tt))
    (sums n (n / 4) (n / 100) (n / 400) (one_if p) (one_if q) (one_if r) (one_if l) (sum (months l)) (omega arith) (at_most_one q) (adds_up (suc n) p q r refl refl refl) (year_length l))

pub closed_form : (n : ℕ) → days_of_years n ≡ years_in_days n
unfolding days_of_years
closed_form zero = refl
closed_form (suc n) = ap (λ (d : ℕ). d + sum (months (leap (suc n)))) (closed_form n) ∙ sym (one_more n)
