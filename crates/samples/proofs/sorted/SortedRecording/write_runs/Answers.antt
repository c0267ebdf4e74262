-- Up to where the next run begins each second has its mean in its place. Assumes nothing.
use borrow.Author.Rules.{rules}
use mathlib.Core.Path.{refl, ◌∙◌}
use Prim.Native.Nat.{◌<◌}
use native.Mathlib.Omega.{arith}
use lib.ListN.{length}
use Rattle.samples.specs.Runs.{second_at}
use Rattle.samples.proofs.RunsOfSeconds.{stands_first, stands_next}
use Rattle.samples.proofs.Filling.{many, places, filling_more, filling_all}
use Rattle.samples.proofs.sorted.SortedRecording.write_runs.Goals as goal

pub loop-from-init : goal.loop-from-init
loop-from-init c =
    let s = c.args.self.now.recording in
    let first = stands_first s.instants.now s.frequencies.now s.checked.same c.args.self.now.never_falls in
    (omega arith, omega arith, first, (refl, refl), record { instants = refl; numbers = refl })

pub write_run-from-requires : goal.write_run-from-requires
write_run-from-requires c =
    let at = c.loop-from in
    let s = c.args.self.now.recording in
    let a = c.args.areas.now in
    let l : at.from < length s.instants.now = search rules in
    let p = c.requires.room in
    let h = at.invariant.2.0 l in
    let m = many s.instants.now s.frequencies.now s.checked a.instants.now a.numbers.now p.instants (omega (arith, p.numbers)) in
    let q = places s.instants.now s.frequencies.now s.checked a.instants.now a.numbers.now p.instants (omega (arith, p.numbers))
    at.areas.instants.now at.areas.numbers.now at.count at.invariant.3 at.invariant.1 in
    record { begins_run = (l, h.2); room = record { instants = omega (arith, h.0, m.2, p.instants, q.0); numbers = omega (arith, h.0, m.2, p.numbers, q.1) } }

pub overflow_add-count : goal.overflow_add-count
overflow_add-count c =
    let at = c.loop-from in
    let s = c.args.self.now.recording in
    let a = c.args.areas.now in
    let p = c.requires.room in
    omega (arith, at.invariant.1, s.checked.few, (many s.instants.now s.frequencies.now s.checked a.instants.now a.numbers.now p.instants (omega (arith, p.numbers))).2)

pub loop-from-smaller : goal.loop-from-smaller
loop-from-smaller c =
    let run = c.write_run-from.ensures.run in
    omega (arith, run.later, run.inside)

pub loop-from-preserved : goal.loop-from-preserved
loop-from-preserved c =
    let at = c.loop-from in
    let s = c.args.self.now.recording in
    let a = c.args.areas.now in
    let l : at.from < length s.instants.now = c.loop-from-test.true in
    let p = c.requires.room in
    let h = at.invariant.2.0 l in
    let w = c.write_run-from.ensures in
    let f = filling_more s.instants.now s.frequencies.now s.checked a.instants.now a.numbers.now p.instants (omega (arith, p.numbers))
    at.areas.instants.now at.areas.numbers.now at.count (second_at s.instants.now at.from) at.invariant.3 h.0 h.1 in (
      w.run.inside,
      omega (arith, h.0),
      stands_next s.instants.now s.frequencies.now s.checked.same c.args.self.now.never_falls at.from c.write_run-from.result at.count h.0 h.1 h.2 w.run,
      (w.mean_put.instants ∙ f.0, w.mean_put.numbers ∙ f.1),
      record { instants = w.mean_put.same.instants ∙ at.invariant.4.instants; numbers = w.mean_put.same.numbers ∙ at.invariant.4.numbers },
    )

pub returns : goal.returns
returns c =
    let at = c.loop-from in
    let s = c.args.self.now.recording in
    let a = c.args.areas.now in
    let p = c.requires.room in
    let whole = filling_all s.instants.now s.frequencies.now s.checked a.instants.now a.numbers.now p.instants (omega (arith, p.numbers))
    at.areas.instants.now at.areas.numbers.now at.count at.invariant.3 (at.invariant.2.1 c.loop-from-test.false) in
    record { many = whole.0; areas = record { instants = whole.1.0; numbers = whole.1.1; same = at.invariant.4 } }
