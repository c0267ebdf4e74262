-- By the one test: what is above zero is without a sign already, and of anything else 0 − x is the magnitude, with nothing to round. Assumes nothing.
use Rattle.std.proofs.Common.{T, sym, subst}
use lib.Ieee.{of_bits}
use Rattle.float.proofs.Magnitudes.{magnitude_above, magnitude_rest}
use Rattle.float.proofs.signs.magnitude.Goals as goal

pub returns-then-x : goal.returns-then-x
unfolding of_bits
returns-then-x c = magnitude_above c.args.x c.if-x.true

pub returns-else-x : goal.returns-else-x
unfolding of_bits
returns-else-x c = magnitude_rest c.args.x (subst T (sym c.well_formed.0.1) tt) c.if-x.false
