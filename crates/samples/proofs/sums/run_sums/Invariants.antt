-- After k samples the sums are those of the first k. Assumes nothing.
use mathlib.Core.Path.{◌≡◌}
use Prim.Native.Nat.{◌-◌}
use lib.IntN.{pos}
use lib.ListN.{length, get_or, take, drop}
use Rattle.common.specs.Numbers.{nought}
use Rattle.common.specs.Sums.{sum_from}
use Rattle.samples.specs.Means.{recording, offset_sum}
use Rattle.samples.proofs.sums.run_sums.Given as goal

abbrev pub invariant-loop-t : goal.invariant-loop-t
invariant-loop-t l =
    let ts = l.samples.instants.now in
    let fs = l.samples.frequencies.now in
    let k = length l.yielded in
    (l.micros ≡ offset_sum (get_or ts 0 (pos 0)) (take k (recording ts fs)))
    × (sum_from l.hertz (take (length fs - k) (drop k fs)) ≡ sum_from nought fs)
