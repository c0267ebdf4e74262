-- The test is the definition's, and the number the code writes is its limit. Assumes nothing.
use lib.Ieee.{of_bits}
use Rattle.checks.proofs.places.inside.Goals as goal

pub returns : goal.returns
unfolding of_bits
returns c = rw c.magnitude.ensures
