-- Cases by computation. Each says what the definition gives.
use Rattle.std.specs.Prelude.{ℕ, ◌≡◌, refl, true, false, List, [], ◌∷◌, map, ℤ, pos, negsuc, Float}
use Rattle.std.specs.Float.{nan, inf, fin}
use Rattle.std.specs.Float.Ieee.{round, lt, sub, mul, div}
use Rattle.common.specs.Numbers.{nought, minus_zero, one, thousandth}
use Rattle.common.specs.Lists.{list_of, those}
use Rattle.float.specs.Signs.{magnitude_of}
use Rattle.units.specs.declared.Seconds.{Seconds}
use Rattle.checks.specs.Checks.{not_finite, no_tolerance}
use Rattle.float.specs.Conversions.{truncated_of}
use Rattle.orbit.specs.declared.place.Place.TheVariants.{Before, Within, After}
use Rattle.orbit.specs.Place.{place_of}
use Rattle.orbit.specs.Residuals.{outside_count}
use Rattle.orbit.specs.Window.{uneven}

-- a table from 1 ns before 1970 to 9 µs after: 1 ns before its first coordinate, at it, at its last, and 1 ns after that
abbrev table : List ℤ
table = negsuc 0 ∷ pos 4000 ∷ pos 9000 ∷ []

pub place_cases : (place_of table (negsuc 1) ≡ Before)
    × (place_of table (negsuc 0) ≡ Within)
    × (place_of table (pos 9000) ≡ Within)
    × (place_of table (pos 9001) ≡ After)
place_cases = (refl, refl, refl, refl)

-- 2^-19 s either way, which is 1,907 ns and some, moves by 1,000 ns: to 1 ns before the table, to its first coordinate and to its last; later by as much,
-- to its last coordinate and to 1 ns after it. By 1,907 ns two would lie outside in each, and by 2,000 ns too
pub outside_cases : (outside_count table (pos 998 ∷ pos 999 ∷ pos 10000 ∷ []) (fin false 1 (negsuc 18)) ≡ 1)
    × (outside_count table (pos 8000 ∷ pos 8001 ∷ []) (fin true 1 (negsuc 18)) ≡ 1)
unfolding those truncated_of round mul
outside_cases = (refl, refl)

-- ---- request 2.7

-- a time in seconds
abbrev seconds : Float → Seconds
seconds x = record { 0 = x }

-- whole seconds
abbrev whole : ℕ → Float
whole n = fin false n (pos 0)

-- "a tolerance not finite or below zero": NaN, either infinity, and of the numbers nearest zero the one below it; not −0.0, 0.0 or the one above it
pub tolerance_cases : (no_tolerance (seconds nan) ≡ true)
    × (no_tolerance (seconds (inf false)) ≡ true)
    × (no_tolerance (seconds (inf true)) ≡ true)
    × (no_tolerance (seconds (fin true 1 (negsuc 1073))) ≡ true)
    × (no_tolerance (seconds minus_zero) ≡ false)
    × (no_tolerance (seconds nought) ≡ false)
    × (no_tolerance (seconds (fin false 1 (negsuc 1073))) ≡ false)
unfolding not_finite lt
tolerance_cases = (refl, refl, refl, refl, refl, refl, refl)

-- ten times a minute apart, and the same with the second one a second late: two gaps are off their mean by exactly 1.0 s
abbrev each_minute : List Float
each_minute = map whole (0 ∷ 60 ∷ 120 ∷ 180 ∷ 240 ∷ 300 ∷ 360 ∷ 420 ∷ 480 ∷ 540 ∷ [])

abbrev one_late : List Float
one_late = map whole (0 ∷ 61 ∷ 120 ∷ 180 ∷ 240 ∷ 300 ∷ 360 ∷ 420 ∷ 480 ∷ 540 ∷ [])

-- even at a tolerance of either zero; even at 1.0, not at the next double below it, nor at a millisecond
pub window_cases : (uneven (seconds nought) each_minute ≡ false)
    × (uneven (seconds minus_zero) each_minute ≡ false)
    × (uneven (seconds one) one_late ≡ false)
    × (uneven (seconds (fin false 9007199254740991 (negsuc 52))) one_late ≡ true)
    × (uneven (seconds thousandth) one_late ≡ true)
unfolding list_of magnitude_of round lt sub div
window_cases = (refl, refl, refl, refl, refl)
