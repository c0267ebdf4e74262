-- The search from sample i on, with the best so far, ends where the whole search does; the best's middle is a sample. Assumes nothing.
use mathlib.Core.Path.{◌≡◌}
use Prim.Native.Nat.{◌<◌}
use lib.ListN.{length}
use Rattle.samples.specs.Approach.{least_slope}
use Rattle.samples.proofs.Slopes.{rest}
use Rattle.samples.proofs.approach.least_slope.Given as goal

abbrev pub invariant-loop-i : goal.invariant-loop-i
invariant-loop-i l =
    let ts = l.samples.instants.now in
    let fs = l.samples.frequencies.now in
    (0 < l.i) × (l.best.middle < length ts) × (rest l.floor ts fs l.i l.best ≡ least_slope l.floor ts fs)
