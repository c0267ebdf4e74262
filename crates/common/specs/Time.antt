-- Spans of time as whole numbers of nanoseconds.
use Rattle.std.specs.Prelude.{ℕ}

-- nanoseconds in a second
abbrev pub second : ℕ
second = 1000000000

-- nanoseconds in a millisecond
abbrev pub millisecond : ℕ
millisecond = 1000000

-- nanoseconds in a microsecond
abbrev pub microsecond : ℕ
microsecond = 1000
