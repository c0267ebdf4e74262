-- By whether there is a best so far. Assumes nothing.
use borrow.Author.Rules.{rules}
use lib.Ieee.{of_bits}
use Rattle.orbit.proofs.stages.Candidate.beats.Goals as goal

pub returns : goal.returns
unfolding of_bits
returns c = search rules
