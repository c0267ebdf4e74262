-- What C lends: ten numbers of an area from a place on, and a matrix of a hundred doubles, row after row.
-- Assumes nothing.
use Rattle.std.specs.Prelude.{ℕ, ◌+◌, ◌*◌, get_or}
use Rattle.std.specs.Float.{nan}
use Rattle.common.specs.Lists.{list_of}
use Rattle.chebyshev.specs.Inverse.{Row, Matrix, order}

-- ten numbers from one on
abbrev pub row_from : Row → ℕ → Row
row_from xs from = list_of (λ k. get_or xs (from + k) nan) order 0

-- number 10 r + c of the area is row r, column c
abbrev pub row_at : Row → ℕ → Row
row_at xs r = row_from xs (order * r)

-- the ten rows
abbrev pub rows_in : Row → Matrix
rows_in xs = list_of (row_at xs) order 0
