-- What one line behind the header says: an epoch line and a P line of the satellite by their columns, which count from 1.
use Rattle.std.specs.Prelude.{ℕ, ◌+◌, ◌-◌, ◌*◌, ◌/◌, ◌%◌, Bool, true, false, cond, ◌&&◌, Option, None, Some, Result, Ok, Err, List, ◌++◌}
use Rattle.std.specs.Prelude.{leb, eqb, pos, length, take, drop, Float}
use Rattle.std.specs.Float.{binary64}
use Rattle.std.specs.Float.Ieee.{round}
use Rattle.common.specs.Numbers.{nought}
use Rattle.decimal.specs.declared.reading.Number.{Number}
use Rattle.decimal.specs.Reading.{whole_of, decimal_of}
use Rattle.calendar.specs.declared.gregorian.Calendar.{Calendar}
use Rattle.calendar.specs.declared.instants.InstantError.{InstantError}
use Rattle.units.specs.declared.Nanoseconds.{Nanoseconds}
use Rattle.calendar.specs.Gregorian.{real}
use Rattle.calendar.specs.Instants.{instant_of}
use Rattle.sp3.specs.declared.line.Line.{Line}
use Rattle.sp3.specs.declared.line.Line.TheVariants.{Epoch, Located, Absent, Wrong, PassedOver}
use Rattle.sp3.specs.declared.header.TimeSystem.{TimeSystem}
use Rattle.sp3.specs.declared.header.TimeSystem.TheVariants.{Less, Other, Missing}
use Rattle.common.specs.Text.{text}
use Rattle.sp3.specs.Lines.{begins}

-- what a reading makes of the columns from first to last; a line that does not have them holds no number there
abbrev pub columns : ℕ → ℕ → (List ℕ → Option Number) → List ℕ → Option Number
columns first last read l = cond (leb last (length l)) (read (take (last + 1 - first) (drop (first - 1) l))) None

-- the whole number in the columns from first to last
abbrev pub whole : ℕ → ℕ → List ℕ → Option Number
whole first last = columns first last (whole_of false)

-- the number in the columns from first to last, with its point in a column of its own, and perhaps a minus where `signed`
abbrev pub pointed : Bool → ℕ → ℕ → ℕ → List ℕ → Option Number
pointed signed first point last = columns first last (decimal_of signed (point - first))

-- what a line says by the number that a field holds; without one it is not by the description
abbrev pub numbered : Option Number → (Number → Line) → Line
numbered (Some n) f = f n
numbered None f = Wrong

-- ---- the columns of an epoch line

-- its year
abbrev pub year_in : List ℕ → Option Number
year_in = whole 4 7

-- its month
abbrev pub month_in : List ℕ → Option Number
month_in = whole 9 10

-- its day
abbrev pub day_in : List ℕ → Option Number
day_in = whole 12 13

-- its hour
abbrev pub hour_in : List ℕ → Option Number
hour_in = whole 15 16

-- its minute
abbrev pub minute_in : List ℕ → Option Number
minute_in = whole 18 19

-- its second, with eight decimals
abbrev pub second_in : List ℕ → Option Number
second_in = pointed false 21 23 31

-- ---- the columns of a P line, in kilometres with six decimals: "at coordinates perhaps a minus"

-- its x
abbrev pub x_in : List ℕ → Option Number
x_in = pointed true 5 12 18

-- its y
abbrev pub y_in : List ℕ → Option Number
y_in = pointed true 19 26 32

-- its z
abbrev pub z_in : List ℕ → Option Number
z_in = pointed true 33 40 46

-- ---- an epoch line

-- steps of the eighth decimal, hundred-millionths of a second, in a second
abbrev pub steps_in_second : ℕ
steps_in_second = 100000000

-- nanoseconds in such a step
abbrev pub nanoseconds_in_step : ℕ
nanoseconds_in_step = 10

-- a date and time by the numbers of its columns
abbrev pub calendar_of : Number → Number → Number → Number → Number → Number → Calendar
calendar_of year month day hour minute second = record {
  year = year.digits;
  month = month.digits;
  day = day.digits;
  hour = hour.digits;
  minute = minute.digits;
  second = second.digits / steps_in_second;
  nanosecond = second.digits % steps_in_second * nanoseconds_in_step;
}

-- "An epoch of no real date and time …, or whose instant … is beyond check 4, counts as not by the description"
abbrev pub epoch_at : Result Nanoseconds InstantError → Line
epoch_at (Ok t) = Epoch t
epoch_at (Err e) = Wrong

-- no instant is "worked out" but "under these two time systems"; 0 stands for it, and refusal 12 lets no such record out
abbrev pub epoch_without_instant : Calendar → Line
epoch_without_instant c = cond (real c) (Epoch (record { 0 = pos 0 })) Wrong

-- a date and time under a time system
abbrev pub epoch_under : TimeSystem → Calendar → Line
epoch_under (Less leaps) c = epoch_at (instant_of c leaps.0)
epoch_under Other c = epoch_without_instant c
epoch_under Missing c = epoch_without_instant c

-- by its six fields
abbrev pub epoch_by : TimeSystem → Option Number → Option Number → Option Number → Option Number → Option Number → Option Number → Line
epoch_by system year month day hour minute second =
    numbered year (λ y. numbered month (λ m. numbered day (λ d. numbered hour (λ h. numbered minute (λ i. numbered second (λ s.
    epoch_under system (calendar_of y m d h i s)))))))

-- what an epoch line says
unfoldable pub epoch_in : TimeSystem → List ℕ → Line
epoch_in system l = epoch_by system (year_in l) (month_in l) (day_in l) (hour_in l) (minute_in l) (second_in l)

-- ---- a P line

-- steps of the sixth decimal, millionths of a kilometre, in a metre
abbrev pub steps_in_metre : ℕ
steps_in_metre = 1000

-- a coordinate's columns hold 13 digits, so fewer steps than this
abbrev pub coordinate_end : ℕ
coordinate_end = 10000000000000

-- "Kilometres become metres as the double nearest the decimal value, a zero as +0"
abbrev pub metres_of : Number → Float
metres_of n = cond (eqb n.digits 0) nought (round binary64 n.negative n.digits steps_in_metre)

-- "a position of three zeros"
abbrev pub absent : Number → Number → Number → Bool
absent x y z = eqb x.digits 0 && eqb y.digits 0 && eqb z.digits 0

-- it "is absent and left out"
abbrev pub position_of : Number → Number → Number → Line
position_of x y z = cond (absent x y z) Absent (Located (record { x = metres_of x; y = metres_of y; z = metres_of z }))

-- by its three fields
abbrev pub position_by : Option Number → Option Number → Option Number → Line
position_by x y z = numbered x (λ m. numbered y (λ n. numbered z (λ o. position_of m n o)))

-- what a P line of the satellite says
unfoldable pub position_in : List ℕ → Line
position_in l = position_by (x_in l) (y_in l) (z_in l)

-- ---- a line: "every line with an asterisk first", "every P line of the satellite"; "other lines … are passed over"
unfoldable pub line_of : TimeSystem → List ℕ → List ℕ → Line
unfolding epoch_in position_in begins
line_of system satellite l =
    cond (begins (text "*") l) (epoch_in system l)
    (cond (begins (text "P" ++ satellite) l) (position_in l) PassedOver)
