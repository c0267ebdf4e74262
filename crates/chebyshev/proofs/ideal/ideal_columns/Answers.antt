-- The table is the inversion of the ideal matrix, by computation: the matrix is worked out, inverted by the definition, and each double compared.
-- Assumes nothing.
use mathlib.Core.Path.{refl}
use lib.Ieee.{of_bits, add, sub, mul, div, lt, of_int, neg}
use Rattle.float.specs.Signs.{magnitude_of}
use Rattle.common.specs.Lists.{list_of}
use Rattle.common.specs.Search.{first_best}
use Rattle.chebyshev.specs.Recurrence.{T}
use Rattle.chebyshev.specs.Inverse.{inverted, columns_from, cleared, reduced, divided}
use Rattle.chebyshev.proofs.ideal.ideal_columns.Goals as goal

pub returns : goal.returns
unfolding inverted columns_from first_best cleared reduced divided list_of T add sub mul div lt of_int of_bits neg magnitude_of
returns c = refl
