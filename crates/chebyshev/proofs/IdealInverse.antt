-- The ideal matrix has an inverse: its inversion, worked out, is not refused. Assumes nothing.
use mathlib.Core.Path.{◌≡◌, refl}
use lib.Ieee.{of_bits, add, sub, mul, div, lt, of_int, neg}
use Rattle.common.specs.Outcome.{refusal_in}
use Rattle.float.specs.Signs.{magnitude_of}
use Rattle.common.specs.Lists.{list_of}
use Rattle.common.specs.Search.{first_best}
use Rattle.chebyshev.specs.Recurrence.{T}
use Rattle.chebyshev.specs.Inverse.{inverted, columns_from, cleared, reduced, divided}
use Rattle.chebyshev.specs.Ideal.{ideal_matrix}

pub ideal_not_refused : refusal_in (inverted ideal_matrix) ≡ 0
unfolding inverted columns_from first_best cleared reduced divided list_of T add sub mul div lt of_int of_bits neg magnitude_of
ideal_not_refused = refl
