-- Cases by computation. Each says what the definition gives.
use Rattle.std.specs.Prelude.{ℕ, ◌≡◌, refl, true, false, Ok, Err, pos, negsuc}
use Rattle.calendar.specs.declared.gregorian.Calendar.{Calendar}
use Rattle.calendar.specs.declared.instants.InstantError.TheVariants.{Unreal, Beyond}
use Rattle.calendar.specs.Gregorian.{leap, sum, days_of_years, real}
use Rattle.calendar.specs.Instants.{since1970, instant_of}

-- the beginning of a day
abbrev midnight : ℕ → ℕ → ℕ → Calendar
midnight y m d = record { year = y; month = m; day = d; hour = 0; minute = 0; second = 0; nanosecond = 0 }

-- the last nanosecond of a day
abbrev last_of : ℕ → ℕ → ℕ → Calendar
last_of y m d = record { year = y; month = m; day = d; hour = 23; minute = 59; second = 59; nanosecond = 999999999 }

-- instants are counted from 1970, those before it below zero; the last of four digits is past what 64 bits hold
pub counted : (since1970 (midnight 1970 1 1) ≡ pos 0) × (since1970 (last_of 1969 12 31) ≡ negsuc 0)
    × (since1970 (last_of 9999 12 31) ≡ pos 253402300799999999999)
unfolding leap sum days_of_years
counted = (refl, refl, refl)

-- 1843-03-31 16:53:20 and 2096-10-02 07:06:40, the first and the last instant within check 4
abbrev first : Calendar
first = record { year = 1843; month = 3; day = 31; hour = 16; minute = 53; second = 20; nanosecond = 0 }

-- the last
abbrev last : Calendar
last = record { year = 2096; month = 10; day = 2; hour = 7; minute = 6; second = 40; nanosecond = 0 }

-- they are answered; the first less one leap second is beyond check 4, and so is the last less −1
pub ends : (instant_of first (pos 0) ≡ Ok (record { 0 = negsuc 3999999999999999999 }))
    × (instant_of last (pos 0) ≡ Ok (record { 0 = pos 4000000000000000000 }))
    × (instant_of first (pos 1) ≡ Err Beyond) × (instant_of last (negsuc 0) ≡ Err Beyond)
unfolding leap sum days_of_years
ends = (refl, refl, refl, refl)

-- the first label of 2024 in GPS time, which was then 18 s ahead of UTC: 2023-12-31 23:59:42
pub less_leap_seconds : instant_of (midnight 2024 1 1) (pos 18) ≡ Ok (record { 0 = pos 1704067182000000000 })
unfolding leap sum days_of_years
less_leap_seconds = refl

-- a second of 60
abbrev leap_second : Calendar
leap_second = record { year = 2016; month = 12; day = 31; hour = 23; minute = 59; second = 60; nanosecond = 0 }

-- 2000 has a leap day, 1900 has none; there is no year 0, and no second of 60
pub reals : (real (midnight 2000 2 29) ≡ true) × (real (midnight 1900 2 29) ≡ false) × (real (midnight 0 1 1) ≡ false) × (real leap_second ≡ false)
    × (instant_of leap_second (pos 0) ≡ Err Unreal)
unfolding leap
reals = (refl, refl, refl, refl, refl)
