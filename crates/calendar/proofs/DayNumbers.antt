-- The number of a day: by the two formulas, and small enough. Assumes nothing.
use mathlib.Core.Path.{◌≡◌, sym, ap, ◌∙◌}
use mathlib.Core.Bool.{Bool}
use Prim.Native.Nat.{ℕ, ◌+◌, ◌-◌, ◌≤◌}
use native.Mathlib.Omega.{arith}
use Rattle.calendar.specs.declared.gregorian.Calendar.{Calendar}
use Rattle.calendar.specs.Gregorian.{leap, days_of_years, days_of_month, days_before, day_number}
use Rattle.calendar.specs.Formulas.{RealDate, years_in_days, months_in_days}
use Rattle.calendar.proofs.Years.{closed_form}
use Rattle.calendar.proofs.Months.{month_counted}

pub day_number_by : (c : Calendar) → RealDate c → (y m : ℕ) {l : Bool} → y ≡ years_in_days (c.year - 1) → l ≡ leap c.year → m ≡ months_in_days l c.month → y + (m + (c.day - 1)) ≡ day_number c
day_number_by c h y m e f g =
    let p : y ≡ days_of_years (c.year - 1) = e ∙ sym (closed_form (c.year - 1)) in
    let q : m ≡ days_before (leap c.year) c.month = g ∙ ap (λ (l : Bool). months_in_days l c.month) f ∙ sym (month_counted (leap c.year) c.month h.month_from h.month_to).0 in
    rw (p, q)

-- 9998 years, the 336 days before December at most, and 30 days of a month before its last
pub day_small : (c : Calendar) → RealDate c → day_number c ≤ 3660000
day_small c h =
    let l = leap c.year in
    let m = month_counted l c.month h.month_from h.month_to in
    let b = days_before l c.month in
    small (days_of_years (c.year - 1)) b c.day (days_of_month l c.month) (years c.year h.year_to) (months l c.month b m.0 h.month_to) h.day_to m.1
  where
    small : (y b d k : ℕ) → y ≤ 3659268 → b ≤ 336 → d ≤ k → k ≤ 31 → y + (b + (d - 1)) ≤ 3660000
    small y b d k f g h i = omega arith

    years : (y : ℕ) → y ≤ 9999 → days_of_years (y - 1) ≤ 3659268
    years y h = rw (closed_form (y - 1)) (formula (y - 1) (omega arith))
      where
        formula : (n : ℕ) → n ≤ 9998 → years_in_days n ≤ 3659268
        formula n h = omega arith

    months : (l : Bool) (m b : ℕ) → b ≡ months_in_days l m → m ≤ 12 → b ≤ 336
    months l m b e h = omega arith
