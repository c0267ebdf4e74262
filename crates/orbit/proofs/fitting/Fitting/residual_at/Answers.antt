-- The operations are the definition's, in its order, and the range is the root of the squared range. Assumes nothing.
use lib.Ieee.{of_bits}
use Rattle.orbit.proofs.fitting.Fitting.residual_at.Goals as goal

pub returns : goal.returns
unfolding of_bits
returns c = rw c.sqrt-range.ensures
