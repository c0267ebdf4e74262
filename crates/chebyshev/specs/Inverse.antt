-- The inverse of a ten by ten matrix of doubles by Gauss-Jordan elimination, each column's pivot found as document 01 says. A matrix is a
-- list of ten rows of ten doubles, and each operation on doubles rounds once.
use Rattle.std.specs.Prelude.{ℕ, zero, suc, ◌+◌, ◌-◌, ◌*◌, ◌/◌, ◌%◌, Bool, true, false, cond, List, [], ◌∷◌, eqb, get_or, set, replicate, negsuc, Float}
use Rattle.std.specs.Float.{nan, fin}
use Rattle.std.specs.Float.Ieee.{lt}
use Rattle.common.specs.Rounded.{◌⊖◌, ◌⊗◌, ◌⊘◌}
use Rattle.common.specs.Numbers.{nought, one}
use Rattle.float.specs.Signs.{magnitude_of}
use Rattle.common.specs.Outcome.{Outcome, refused, answered, mapped}
use Rattle.common.specs.Lists.{list_of}
use Rattle.common.specs.Search.{first_best}

-- ten doubles
abbrev pub Row : Type 0
Row = List Float

-- ten rows
abbrev pub Matrix : Type 0
Matrix = List Row

-- rows, and numbers in a row
abbrev pub order : ℕ
order = 10

-- 1e-12, the smallest pivot that is taken: 4951760157141521 / 2 ^ 92
abbrev pub least_pivot : Float
least_pivot = fin false 4951760157141521 (negsuc 91)

-- 8. "A column's pivot, found as the module below says, has a magnitude below 1e-12"
abbrev pub singular_refusal : ℕ
singular_refusal = 8

-- the number at row r, column c
abbrev pub cell : Matrix → ℕ → ℕ → Float
cell m r c = get_or (get_or m r []) c nan

-- each number of a row divided by p
unfoldable pub divided : Float → Row → Row
divided p [] = []
divided p (x ∷ xs) = (x ⊘ p) ∷ divided p xs

-- a row less k times another
unfoldable pub reduced : Float → Row → Row → Row
reduced k [] ps = []
reduced k (x ∷ xs) [] = x ∷ xs
reduced k (x ∷ xs) (p ∷ ps) = (x ⊖ k ⊗ p) ∷ reduced k xs ps

-- column c, from the first row to the last
abbrev pub column : ℕ → Matrix → Row
column c m = list_of (λ r. cell m r c) order 0

-- rows i and j exchanged
abbrev pub exchanged : ℕ → ℕ → Matrix → Matrix
exchanged i j m = set (set m i (get_or m j [])) j (get_or m i [])

-- row r has a greater magnitude in column c than row s. A NaN is greater than nothing, and nothing is greater than it
abbrev pub greater : ℕ → Matrix → ℕ → ℕ → Bool
greater c m r s = lt (magnitude_of (cell m s c)) (magnitude_of (cell m r c))

-- "The diagonal is the pivot unless a later row's magnitude compares greater than the best so far, so the first of equals wins":
-- the row that column i takes its pivot from, of the diagonal's row and the later ones
abbrev pub pivot_row : ℕ → Matrix → ℕ
pivot_row i t = first_best (greater i t) i (list_of (λ r. r) (order - (i + 1)) (i + 1))

-- "has a magnitude below 1e-12"; a NaN is not below it
abbrev pub too_small : ℕ → Matrix → Bool
too_small i t = lt (magnitude_of (cell t (pivot_row i t) i)) least_pivot

-- row i divided by p
abbrev pub scaled_at : ℕ → Float → Matrix → Matrix
scaled_at i p m = set m i (divided p (get_or m i []))

-- every row but row i, less its factor times ps. The first row is row r
unfoldable pub cleared : ℕ → Row → ℕ → Row → Matrix → Matrix
cleared i ps r ks [] = []
cleared i ps r [] (x ∷ xs) = x ∷ xs
cleared i ps r (k ∷ ks) (x ∷ xs) = cond (eqb r i) x (reduced k x ps) ∷ cleared i ps (r + 1) ks xs

-- the same by row i of the matrix itself
abbrev pub cleared_by : ℕ → Row → Matrix → Matrix
cleared_by i ks m = cleared i (get_or m i []) 0 ks m

-- m, which is the matrix t itself or the inverse so far, with t's pivot row exchanged into row i and that row divided by the pivot
abbrev pub scaled_pivot : ℕ → Matrix → Matrix → Matrix
scaled_pivot i t m = let j = pivot_row i t in scaled_at i (cell (exchanged i j t) i i) (exchanged i j m)

-- the n columns from i on: the rows of the inverse, or the refusal
unfoldable pub columns_from : ℕ → ℕ → Matrix → Matrix → Outcome Matrix
columns_from zero i t v = answered v
columns_from (suc n) i t v =
    elim (too_small i t) [
      | true ↦ refused singular_refusal
      | false ↦
          let t1 = scaled_pivot i t t in
          let v1 = scaled_pivot i t v in
          let ks = column i t1 in
          columns_from n (i + 1) (cleared_by i ks t1) (cleared_by i ks v1)
    ]

-- the identity's numbers
abbrev pub unit_cell : ℕ → ℕ → Float
unit_cell r c = cond (eqb c r) one nought

-- the identity
abbrev pub unit_rows : Matrix
unit_rows = list_of (λ r. list_of (unit_cell r) order 0) order 0

-- the rows of the inverse of a, or the refusal
unfoldable pub inverted : Matrix → Outcome Matrix
inverted a = columns_from order 0 a unit_rows

-- "in the inverse's answer it is 100 doubles, row after row": number 10 r + c is row r, column c
abbrev pub flat : Matrix → Row
flat m = list_of (λ k. cell m (k / order) (k % order)) (order * order) 0

-- the rows of an inverse, zeros where there is none
abbrev pub rows_of : Outcome Matrix → Matrix
rows_of (refused n) = replicate order (replicate order nought)
rows_of (answered v) = v

-- the entry: the refusal, or the inverse's 100 doubles, row after row
abbrev pub invert_matrix_10 : Matrix → Outcome Row
invert_matrix_10 a = mapped flat (inverted a)
