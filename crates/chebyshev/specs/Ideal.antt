-- The ideal nodes of an even window and the matrix of the polynomials there, which the `OnceLock` of the Rust keeps inverted.
use Rattle.std.specs.Prelude.{ℕ, pos, true, Float}
use Rattle.std.specs.Float.{fin}
use Rattle.common.specs.Rounded.{◌⊕◌, ◌⊗◌, ◌⊘◌}
use Rattle.common.specs.Numbers.{two, nine}
use Rattle.float.specs.Conversions.{nearest_of}
use Rattle.common.specs.Lists.{list_of}
use Rattle.chebyshev.specs.Recurrence.{rounded, polynomials}
use Rattle.chebyshev.specs.Inverse.{Matrix, column, order}

-- −1.0
abbrev pub minus_one : Float
minus_one = fin true 1 (pos 0)

-- "ideal nodes −1 + 2k/9": −1.0 + ((2.0 × k) / 9.0), each operation rounded once
abbrev pub ideal_node : ℕ → Float
ideal_node k = minus_one ⊕ two ⊗ nearest_of (pos k) ⊘ nine

-- row k holds T0 to T9 at node k
abbrev pub ideal_matrix : Matrix
ideal_matrix = list_of (λ k. polynomials rounded (ideal_node k)) order 0

-- rows and columns exchanged
abbrev pub transposed : Matrix → Matrix
transposed m = list_of (λ c. column c m) order 0
