-- Inner: what single steps of the elimination and of the coefficients' sum leave; no entry's contract cites it.
use Rattle.std.specs.Prelude.{ℕ, true, false, get_or, Float}
use Rattle.std.specs.Float.{nan}
use Rattle.common.specs.Rounded.{◌⊕◌, ◌⊗◌}
use Rattle.common.specs.Lists.{list_of}
use Rattle.common.specs.Outcome.{Outcome, refused, answered}
use Rattle.chebyshev.specs.Recurrence.{terms}
use Rattle.chebyshev.specs.Inverse.{Row, Matrix, singular_refusal, column, too_small, cleared_by, scaled_pivot}

-- column i cleared out of m by the factors that t has
abbrev pub cleared_column : ℕ → Matrix → Matrix → Matrix
cleared_column i t m = cleared_by i (column i (scaled_pivot i t t)) (scaled_pivot i t m)

-- what one column leaves of both matrices, or the refusal
abbrev pub column_cleared : ℕ → Matrix → Matrix → Outcome (Matrix × Matrix)
column_cleared i t v = elim (too_small i t) [ true ↦ refused singular_refusal | false ↦ answered (cleared_column i t t, cleared_column i t v) ]

-- x times a column, added number by number
abbrev pub scaled_onto : Row → Row → Float → Row
scaled_onto c column x = list_of (λ j. get_or c j nan ⊕ get_or column j nan ⊗ x) terms 0
