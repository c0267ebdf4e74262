-- Inner: what the functions behind the entries rely on, and what they work out by a fixed number of operations.
use Rattle.std.specs.Prelude.{ℕ, ◌+◌, ◌*◌, ◌-◌, ◌/◌, ◌≤◌, ◌<◌, Bool, true, false, cond, ltb, leb, ℤ, pos, nat_abs, ◌-ℤ◌}
use Rattle.common.specs.Time.{second as nanoseconds_in_second}
use Rattle.calendar.specs.declared.gregorian.Calendar.{Calendar}
use Rattle.calendar.specs.Gregorian.{leap, days_of_month, last_year, months_in_year, hours_in_day, minutes_in_hour, seconds_in_minute}
use Rattle.calendar.specs.Instants.{second_number, origin}

-- what holds of a date that there is
pub record RealDate (c : Calendar) : Type 0 where
  pub year_from : 1 ≤ c.year
  pub year_to : c.year ≤ last_year
  pub month_from : 1 ≤ c.month
  pub month_to : c.month ≤ months_in_year
  pub day_from : 1 ≤ c.day
  pub day_to : c.day ≤ days_of_month (leap c.year) c.month

-- what holds of a time of day that there is
pub record RealTime (c : Calendar) : Type 0 where
  pub hour_to : c.hour < hours_in_day
  pub minute_to : c.minute < minutes_in_hour
  pub second_to : c.second < seconds_in_minute
  pub nanosecond_to : c.nanosecond < nanoseconds_in_second

-- what holds of a date and time that there is
pub record Real (c : Calendar) : Type 0 where
  pub date : RealDate c
  pub time : RealTime c

-- the days of the years 1 to n, without adding them up
abbrev pub years_in_days : ℕ → ℕ
years_in_days n = 365 * n + n / 4 - n / 100 + n / 400

-- how far the months from March on run behind a February of 30 days
abbrev pub behind : Bool → ℕ
behind true = 1
behind false = 2

-- the days before a month, counted from 1
abbrev pub months_in_days : Bool → ℕ → ℕ
months_in_days l month = (367 * month - 362) / 12 - cond (leb month 2) 0 (behind l)

-- whole seconds since 1970-01-01 00:00:00, less leap seconds
abbrev pub seconds_less : Calendar → ℤ → ℤ
seconds_less c leaps = pos (second_number c) -ℤ pos (second_number origin) -ℤ leaps

-- seconds past this, either way, are beyond check 4 whatever nanoseconds are added
abbrev pub many_seconds : ℕ
many_seconds = 5000000000

-- whether seconds are past it
abbrev pub far : ℤ → Bool
far s = ltb many_seconds (nat_abs s)
