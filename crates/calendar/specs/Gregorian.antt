-- The Gregorian calendar: leap years, the lengths of months, and which dates and times there are.
use Rattle.std.specs.Prelude.{ℕ, zero, suc, ◌+◌, ◌-◌, ◌%◌, Bool, true, false, not, ◌&&◌, ◌||◌, List, [], ◌∷◌, leb, ltb, eqb, take, get_or}
use Rattle.common.specs.Time.{second as nanoseconds_in_second}
use Rattle.calendar.specs.declared.gregorian.Calendar.{Calendar}

-- whether k divides n
abbrev pub divides : ℕ → ℕ → Bool
divides k n = eqb (n % k) 0

-- every fourth year is a leap year, but of the whole hundreds only every fourth
unfoldable pub leap : ℕ → Bool
leap y = divides 4 y && (not (divides 100 y) || divides 400 y)

-- the days of February, in a leap year or not
abbrev pub february : Bool → ℕ
february true = 29
february false = 28

-- the days of the months, January first
abbrev pub months : Bool → List ℕ
months l = 31 ∷ february l ∷ 31 ∷ 30 ∷ 31 ∷ 30 ∷ 31 ∷ 31 ∷ 30 ∷ 31 ∷ 30 ∷ 31 ∷ []

-- the sum of a list
unfoldable pub sum : List ℕ → ℕ
sum [] = 0
sum (n ∷ ns) = n + sum ns

-- the days of a month, counted from 1
abbrev pub days_of_month : Bool → ℕ → ℕ
days_of_month l month = get_or (months l) (month - 1) 0

-- the days of the months before a month
abbrev pub days_before : Bool → ℕ → ℕ
days_before l month = sum (take (month - 1) (months l))

-- the days of the years 1 to n
unfoldable pub days_of_years : ℕ → ℕ
days_of_years zero = 0
days_of_years (suc n) = days_of_years n + sum (months (leap (suc n)))

-- the days from 0001-01-01 to a calendar's day
abbrev pub day_number : Calendar → ℕ
day_number c = days_of_years (c.year - 1) + (days_before (leap c.year) c.month + (c.day - 1))

-- the last year of four digits
abbrev pub last_year : ℕ
last_year = 9999

-- months in a year
abbrev pub months_in_year : ℕ
months_in_year = 12

-- hours in a day
abbrev pub hours_in_day : ℕ
hours_in_day = 24

-- minutes in an hour
abbrev pub minutes_in_hour : ℕ
minutes_in_hour = 60

-- seconds in a minute: no leap second is taken
abbrev pub seconds_in_minute : ℕ
seconds_in_minute = 60

-- a date that there is: "no real date and time (so with year 0 …)"
abbrev pub real_date : Calendar → Bool
real_date c =
    leb 1 c.year
    && leb c.year last_year
    && leb 1 c.month
    && leb c.month months_in_year
    && leb 1 c.day
    && leb c.day (days_of_month (leap c.year) c.month)

-- a time of day that there is: "or a second of 60 or more" is none
abbrev pub real_time : Calendar → Bool
real_time c =
    ltb c.hour hours_in_day
    && ltb c.minute minutes_in_hour
    && ltb c.second seconds_in_minute
    && ltb c.nanosecond nanoseconds_in_second

-- a date and time that there is
abbrev pub real : Calendar → Bool
real c = real_date c && real_time c
