-- The sum and the count so far, with what the places not yet judged add, are those of all survivors.
use Rattle.board.proofs.Tallies.{Tallied}
use Rattle.board.proofs.fleet.mean_of_survivors.Given as goal

abbrev pub invariant-loop-place : goal.invariant-loop-place
invariant-loop-place l = Tallied l.entries l.place l.sum l.survivors
