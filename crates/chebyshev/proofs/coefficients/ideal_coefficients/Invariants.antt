-- After so many columns every coefficient has that many of its terms. Assumes nothing.
use mathlib.Core.Path.{◌≡◌}
use lib.ListN.{length}
use Rattle.chebyshev.specs.Inverse.{inverted, rows_of}
use Rattle.chebyshev.specs.Ideal.{ideal_matrix}
use Rattle.chebyshev.proofs.Scaled.{Partial}
use Rattle.chebyshev.proofs.coefficients.ideal_coefficients.Given as goal

abbrev pub invariant-loop-column : goal.invariant-loop-column
invariant-loop-column l = (length l.c ≡ 10) × Partial (rows_of (inverted ideal_matrix)) l.fn.positions (length l.yielded) l.c
