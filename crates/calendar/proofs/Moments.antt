-- An instant by its seconds and the nanoseconds after them: leap seconds may be taken from the seconds first. How many seconds there are at most,
-- and seconds so far from 1970 that the instant is beyond check 4. Assumes nothing.
use mathlib.Core.Path.{◌≡◌, refl, sym, subst}
use mathlib.Core.Bool.{true}
use Prim.Native.Nat.{ℕ, ◌+◌, ◌*◌, ◌≤◌, ◌<◌}
use native.Mathlib.Omega.{arith}
use borrow.Author.Tests.{ltb-true, lt-ltb}
use lib.IntN.{ℤ, pos, negsuc, nat_abs, ◌+ℤ◌, ◌-ℤ◌, ◌*ℤ◌}
use Rattle.common.specs.Time.{second}
use Rattle.common.proofs.Parts.{over, under, parts_eq, add_parts, minus_parts, over_times, under-times, abs_parts}
use Rattle.checks.specs.Limits.{farthest_instant}
use Rattle.checks.specs.Checks.{beyond}
use Rattle.calendar.specs.declared.gregorian.Calendar.{Calendar}
use Rattle.calendar.specs.Gregorian.{leap, sum, days_of_years, day_number}
use Rattle.calendar.specs.Instants.{second_number, origin, since1970, lessened}
use Rattle.calendar.specs.Formulas.{Real, seconds_less, many_seconds, far}
use Rattle.calendar.proofs.DayNumbers.{day_small}

pub origin-seconds : second_number origin ≡ 62135596800
unfolding leap sum days_of_years
origin-seconds = refl

-- ---- leap seconds taken from the seconds

pub seconds-first : (c : Calendar) (leaps : ℤ) → lessened (since1970 c) leaps ≡ seconds_less c leaps *ℤ pos second +ℤ pos c.nanosecond
seconds-first c leaps = joins (second_number c) (second_number origin) c.nanosecond
  where
    joins : (s e n : ℕ) → pos (second * s + n) -ℤ pos (second * e + 0) -ℤ leaps *ℤ pos second ≡ (pos s -ℤ pos e -ℤ leaps) *ℤ pos second +ℤ pos n
    joins s e n =
        let i = pos (second * s + n) -ℤ pos (second * e + 0) in
        let l = leaps *ℤ pos second in
        let d = pos s -ℤ pos e in
        let m = d -ℤ leaps in
        let p = m *ℤ pos second in
        let x = i -ℤ l in
        let y = p +ℤ pos n in
        parts_eq x y
        (sums s e n (over i) (under i) (over l) (under l) (over d) (under d) (over m) (under m) (over p) (under p) (over leaps) (under leaps) (over x) (under x) (over y) (under y)
        (minus_parts (pos (second * s + n)) (pos (second * e + 0))) (over_times leaps second) (under-times leaps second)
        (minus_parts (pos s) (pos e)) (minus_parts d leaps) (over_times m second) (under-times m second) (minus_parts i l) (add_parts p (pos n)))
      where
        sums : (s e n i i' l l' d d' m m' p p' a a' x x' y y' : ℕ)
            → i + (0 + (second * e + 0)) ≡ second * s + n + 0 + i' → l ≡ a * second → l' ≡ a' * second → d + (0 + e) ≡ s + 0 + d' → m + (d' + a) ≡ d + a' + m'
            → p ≡ m * second → p' ≡ m' * second → x + (i' + l) ≡ i + l' + x' → y + (p' + 0) ≡ p + n + y' → x + y' ≡ y + x'
        sums s e n i i' l l' d d' m m' p p' a a' x x' y y' e1 e2 e3 e4 e5 e6 e7 e8 e9 = omega arith

-- ---- how many there are

pub second-small : (c : Calendar) → Real c → second_number c ≤ 400000000000
second-small c h = small (day_number c) c.hour c.minute c.second (day_small c h.date) h.time.hour_to h.time.minute_to h.time.second_to
  where
    small : (d h m s : ℕ) → d ≤ 3660000 → h < 24 → m < 60 → s < 60 → 60 * (60 * (24 * d + h) + m) + s ≤ 400000000000
    small d h m s e f g k = omega arith

-- ---- far seconds are beyond, whatever nanoseconds are added

far-beyond : (s : ℤ) (n : ℕ) → far s ≡ true → n < second → beyond (s *ℤ pos second +ℤ pos n) ≡ true
far-beyond s n h k =
    let p = s *ℤ pos second in
    let x = p +ℤ pos n in
    lt-ltb farthest_instant (nat_abs x) (large s (over p) (under p) (over x) (under x) (nat_abs x) (ltb-true many_seconds (nat_abs s) h) (over_times s second) (under-times s second) (add_parts p (pos n)) (abs_parts x))
  where
    large : (s : ℤ) (p q x y m : ℕ) → many_seconds < nat_abs s → p ≡ over s * second → q ≡ under s * second → x + (q + 0) ≡ p + n + y → m ≡ x + y → farthest_instant < m
    large (pos a) p q x y m d e f g i = omega arith
    large (negsuc a) p q x y m d e f g i = omega arith

pub far_is_beyond : (c : Calendar) (leaps : ℤ) → Real c → far (seconds_less c leaps) ≡ true → beyond (lessened (since1970 c) leaps) ≡ true
far_is_beyond c leaps h e = subst (λ (t : ℤ). beyond t ≡ true) (sym (seconds-first c leaps)) (far-beyond (seconds_less c leaps) c.nanosecond e h.time.nanosecond_to)
