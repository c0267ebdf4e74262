-- The run is all of its second, whose mean goes to its place. Assumes nothing.
use borrow.Author.Rules.{rules}
use mathlib.Core.Path.{◌≡◌, refl, ap, ◌∙◌}
use mathlib.Core.List.{List}
use lib.ListN.{set}
use Rattle.common.proofs.Parts.{back}
use Rattle.samples.specs.declared.sums.Mean.{Mean}
use Rattle.samples.specs.Means.{Sample, bin, recording, mean_of}
use Rattle.samples.specs.Sums.{as_mean}
use Rattle.samples.specs.Runs.{second_at}
use Rattle.samples.proofs.RunsOfSeconds.{run_is_bin}
use Rattle.samples.proofs.sorted.SortedRecording.write_run.Goals as goal

pub returns-clause-mean_put : goal.returns-clause-mean_put
returns-clause-mean_put c =
    let sorted = c.args.self.now in
    let s = sorted.recording in
    let mean = c.run_mean-mean.result in
    let own = mean_of (bin (second_at s.instants.now c.args.from) (recording s.instants.now s.frequencies.now)) in
    -- the mean is that of the run's second
    let e : mean ≡ as_mean own =
    c.run_mean-mean.ensures
    ∙ ap (λ (l : List Sample). as_mean (mean_of l))
    (run_is_bin s.instants.now s.frequencies.now s.checked sorted.never_falls c.args.from c.run_end-end.result c.requires.begins_run.1 c.run_end-end.ensures) in
    let is = c.args.areas.now.instants.now in
    let k = c.args.place in
    let read : set is k (back mean.instant.0) ≡ set is k mean.instant.0 = search rules in
    record {
      instants = read ∙ ap (λ (x : Mean). set is k x.instant.0) e;
      numbers = ap (λ (x : Mean). set c.args.areas.now.numbers.now k x.frequency.0) e;
      same = record { instants = refl; numbers = refl };
    }
