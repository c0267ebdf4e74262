-- Where no check fails the slices are a recording, and the search is the definition's. Assumes nothing.
use mathlib.Core.Path.{sym, refl, ap, ◌∙◌}
use lib.Ieee.{of_bits, neg}
use Rattle.common.specs.Outcome.{answered}
use Rattle.checks.specs.Entries.{first_failing, samples_checks}
use Rattle.checks.proofs.Checked.{samples-samples}
use Rattle.samples.specs.declared.approach.LeastSlope.{LeastSlope}
use Rattle.samples.specs.Approach.{slope_floor, least_slope}
use Rattle.common.proofs.Outcomes.{outcome-answered}
use Rattle.samples.proofs.approach.steepest_slope.Goals as goal

pub invariant_of-samples : goal.invariant_of-samples
invariant_of-samples c = record { checked = samples-samples c.args.instants.now c.args.frequencies.now (sym c.in_ok-refuse_samples.ensures) }

pub returns : goal.returns
unfolding of_bits neg
returns c =
    let ts = c.args.instants.now in
    let fs = c.args.frequencies.now in
    ap (λ (x : LeastSlope). answered x.slope) c.least_slope.ensures.value
    ∙ outcome-answered 0 (first_failing (samples_checks ts fs)) (least_slope slope_floor ts fs).slope c.in_ok-refuse_samples.ensures refl
