-- The constant is the second number of 1970-01-01. Assumes nothing.
use Rattle.std.proofs.Common.{arith}
use Rattle.std.proofs.lemmas.Int.{ints}
use Rattle.calendar.proofs.Moments.{origin-seconds, second-small}
use Rattle.calendar.proofs.instants.seconds_less.Goals as goal

pub returns : goal.returns
returns c =
    let o = origin-seconds in
    let s = second-small c.args.c c.requires in
    rw o (omega (arith, ints, s, c.second_number.ensures, c.from.ensures))
