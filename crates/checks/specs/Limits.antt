-- The numbers of document 01's checks, the limit of samples as document 02 has it, each named once.
use Rattle.std.specs.Prelude.{ℕ, false, pos, Float}
use Rattle.std.specs.Float.{fin}
use Rattle.common.specs.Numbers.{million}

-- "Fewer than 10 or more than 4,096 coordinates"
abbrev pub least_coordinates : ℕ
least_coordinates = 10

-- the most that are taken
abbrev pub most_coordinates : ℕ
most_coordinates = 4096

-- doubles in a position
abbrev pub axes : ℕ
axes = 3

-- "The limit of samples in refusal 2 becomes 1,312: that many pass, 1,313 are refused" (document 02, request 2.2)
abbrev pub most_samples : ℕ
most_samples = 1312

-- "An instant whose magnitude is over 4,000,000,000,000,000,000", in nanoseconds
abbrev pub farthest_instant : ℕ
farthest_instant = 4000000000000000000

-- "over 100,000,000 m in magnitude": 5 ^ 8 * 2 ^ 8
abbrev pub largest_component : Float
largest_component = fin false 390625 (pos 8)

-- "all three magnitudes under 1,000,000 m"
abbrev pub least_component : Float
least_component = million
