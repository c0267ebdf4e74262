-- Where no check fails the slices are a recording, and the search is the definition's. Assumes nothing.
use mathlib.Core.Path.{sym, refl, ap, ◌∙◌}
use mathlib.Core.Bool.{true, false}
use lib.IntN.{ℤ, pos}
use lib.ListN.{get_or}
use lib.Ieee.{of_bits, neg, div}
use mir.Syntax.{w64}
use mir.ValLaws.{to_z-of_z}
use Rattle.common.specs.Outcome.{answered}
use Rattle.checks.specs.Entries.{first_failing, samples_checks}
use Rattle.checks.proofs.Checked.{samples-samples}
use Rattle.samples.specs.Approach.{approach_of}
use Rattle.common.proofs.Outcomes.{unless_none}
use Rattle.samples.proofs.Answers.{approach_is}
use Rattle.samples.proofs.Limits.{limit_fits}
use Rattle.samples.proofs.approach.estimate_measured_pca_time.Goals as goal

pub invariant_of-samples : goal.invariant_of-samples
invariant_of-samples c = record { checked = samples-samples c.args.instants.now c.args.frequencies.now (sym c.in_ok-refuse_samples.ensures) }

pub returns-then-best : goal.returns-then-best
unfolding of_bits neg div
returns-then-best c =
    let w = c.least_slope-best in
    let ts = c.args.instants.now in
    let fs = c.args.frequencies.now in
    let e = c.in_ok-refuse_samples.ensures in
    let t = get_or ts w.result.middle (pos 0) in
    ap (λ (z : ℤ). answered z) (to_z-of_z w64 t (limit_fits t ((samples-samples ts fs (sym e)).near w.result.middle)))
    ∙ approach_is ts fs w.result w.ensures.value true c.if-best.true
    ∙ unless_none 0 (first_failing (samples_checks ts fs)) (approach_of ts fs) e refl

pub returns-else-best : goal.returns-else-best
unfolding of_bits neg div
returns-else-best c =
    let w = c.least_slope-best in
    let ts = c.args.instants.now in
    let fs = c.args.frequencies.now in
    approach_is ts fs w.result w.ensures.value false c.if-best.false
    ∙ unless_none 0 (first_failing (samples_checks ts fs)) (approach_of ts fs) c.in_ok-refuse_samples.ensures refl
