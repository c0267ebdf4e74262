-- Up to where the next run begins each second has its mean in its place. Assumes nothing.
use mathlib.Core.Path.{◌≡◌}
use Prim.Native.Nat.{◌-◌, ◌≤◌}
use lib.ListN.{length}
use Rattle.samples.specs.Means.{seconds, recording}
use Rattle.samples.specs.Sums.{instants_of_means, frequencies_of_means}
use Rattle.checks.specs.Areas.{SameAreas}
use Rattle.samples.proofs.RunsOfSeconds.{Stands}
use Rattle.samples.proofs.Areas.{filled}
use Rattle.samples.proofs.sorted.SortedRecording.write_runs.Given as goal

abbrev pub invariant-loop-from : goal.invariant-loop-from
invariant-loop-from l =
    let ts = l.self.recording.instants.now in
    let fs = l.self.recording.frequencies.now in
    (l.from ≤ length ts)
    × (l.count ≤ length (seconds (recording ts fs)))
    × Stands ts fs l.from l.count
    × ((l.areas.instants.now ≡ filled (instants_of_means ts fs) l.initial.areas.instants.now l.count) × (l.areas.numbers.now ≡ filled (frequencies_of_means ts fs) l.initial.areas.numbers.now l.count))
    × SameAreas 1 l.initial.areas l.areas

abbrev pub decreases-loop-from : goal.decreases-loop-from
decreases-loop-from l = length l.self.recording.instants.now - l.from
