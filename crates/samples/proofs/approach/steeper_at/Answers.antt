-- The three tests are the definition's conjunction, and the gap is the definition's. Assumes nothing.
use mathlib.Core.Path.{refl}
use lib.Ieee.{of_bits}
use Rattle.samples.proofs.Slopes.{kept, taken}
use Rattle.samples.proofs.approach.steeper_at.Goals as goal
use Rattle.samples.proofs.approach.steeper_at.Goals.{else-gap-via-then-gap+then-not-slope-floor+else-slope-best, else-gap-via-then-gap+else-not-slope-floor, else-gap-via-else-gap}

pub returns-then-slope-best : goal.returns-then-slope-best
unfolding of_bits
returns-then-slope-best c =
    let s = c.args.samples.now in
    taken c.args.floor s.instants.now s.frequencies.now c.args.i c.args.best s.checked.near c.gap_between-gap.result.0 c.gap_between-gap.ensures
    (rw (c.if-gap.true, c.if-not-slope-floor.true, c.if-slope-best.true) refl)

pub returns-else-gap : goal.returns-else-gap
unfolding of_bits
returns-else-gap c =
    let s = c.args.samples.now in
    kept c.args.floor s.instants.now s.frequencies.now c.args.i c.args.best s.checked.near c.gap_between-gap.result.0 c.gap_between-gap.ensures
    (elim c.else-gap.branch [
      | else-gap-via-then-gap+then-not-slope-floor+else-slope-best w ↦ rw (w.if-gap.true, w.if-not-slope-floor.true, w.if-slope-best.false) refl
      | else-gap-via-then-gap+else-not-slope-floor w ↦ rw (w.if-gap.true, w.if-not-slope-floor.false) refl
      | else-gap-via-else-gap w ↦ rw (w.if-gap.false) refl
    ])
