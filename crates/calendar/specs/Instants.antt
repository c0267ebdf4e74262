-- The instant of a calendar: "The calendar of each epoch line becomes an instant."
use Rattle.std.specs.Prelude.{ℕ, ◌+◌, ◌*◌, cond, Result, Ok, Err, ℤ, pos, ◌-ℤ◌, ◌*ℤ◌}
use Rattle.units.specs.declared.Nanoseconds.{Nanoseconds}
use Rattle.common.specs.Time.{second as nanoseconds_in_second}
use Rattle.checks.specs.Checks.{beyond}
use Rattle.calendar.specs.declared.gregorian.Calendar.{Calendar}
use Rattle.calendar.specs.declared.instants.InstantError.{InstantError}
use Rattle.calendar.specs.declared.instants.InstantError.TheVariants.{Unreal, Beyond}
use Rattle.calendar.specs.Gregorian.{hours_in_day, minutes_in_hour, seconds_in_minute, day_number, real}

-- the seconds from 0001-01-01 00:00:00, without leap seconds
abbrev pub second_number : Calendar → ℕ
second_number c = seconds_in_minute * (minutes_in_hour * (hours_in_day * day_number c + c.hour) + c.minute) + c.second

-- the nanoseconds from then
abbrev pub nanosecond_number : Calendar → ℕ
nanosecond_number c = nanoseconds_in_second * second_number c + c.nanosecond

-- 1970-01-01 00:00:00, where instants are counted from
abbrev pub origin : Calendar
origin = record { year = 1970; month = 1; day = 1; hour = 0; minute = 0; second = 0; nanosecond = 0 }

-- nanoseconds since 1970-01-01 00:00:00, below zero before it
abbrev pub since1970 : Calendar → ℤ
since1970 c = pos (nanosecond_number c) -ℤ pos (nanosecond_number origin)

-- "lessened by a count of leap seconds"
abbrev pub lessened : ℤ → ℤ → ℤ
lessened t leaps = t -ℤ leaps *ℤ pos nanoseconds_in_second

-- an instant, if it is within check 4
abbrev pub within : ℤ → Result Nanoseconds InstantError
within t = cond (beyond t) (Err Beyond) (Ok (record { 0 = t }))

-- the instant of a calendar less leap seconds, if it is real
abbrev pub instant_of : Calendar → ℤ → Result Nanoseconds InstantError
instant_of c leaps = cond (real c) (within (lessened (since1970 c) leaps)) (Err Unreal)
