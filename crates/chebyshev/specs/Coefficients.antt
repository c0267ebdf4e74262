-- The coefficients of a Chebyshev sum through ten values at ten nodes, by the inverse of the nodes' matrix.
use Rattle.std.specs.Prelude.{[], get_or}
use Rattle.common.specs.Lists.{list_of}
use Rattle.chebyshev.specs.Recurrence.{rounded, weighted, terms}
use Rattle.chebyshev.specs.Inverse.{Row, Matrix}
use Rattle.chebyshev.specs.declared.coefficients.Coefficients.{Coefficients}

-- coefficient j: the sum of row j of the inverse times the values, from +0.0, k from 0 to 9
abbrev pub coefficients_by : Matrix → Row → Row
coefficients_by inv values = list_of (λ j. weighted rounded (get_or inv j []) values) terms 0

-- three axes by the rows of an inverse
abbrev pub coefficients_of : Row → Row → Row → Matrix → Coefficients
coefficients_of x y z inv = record { cx = coefficients_by inv x; cy = coefficients_by inv y; cz = coefficients_by inv z }
