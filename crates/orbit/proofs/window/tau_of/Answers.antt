-- The operations are the definition's, in its order. Assumes nothing.
use lib.Ieee.{of_bits}
use borrow.Author.Rules.{rules}
use Rattle.orbit.proofs.window.tau_of.Goals as goal

pub returns : goal.returns
unfolding of_bits
returns c = search rules
