-- Where no check fails the slices are a recording, and its means are written. Assumes nothing.
use Rattle.std.proofs.Common.{rules, arith}
use mathlib.Core.Path.{sym, refl, ◌∙◌}
use Rattle.common.proofs.Outcomes.{area-written}
use Rattle.checks.proofs.Checked.{means-samples, means_areas}
use Rattle.samples.specs.Means.{downsample_refusal}
use Rattle.samples.specs.Sums.{instants_of_means, frequencies_of_means}
use Rattle.samples.proofs.means.downsample_data.Goals as goal

pub invariant_of-samples : goal.invariant_of-samples
invariant_of-samples c = let a = c.args in record { checked = means-samples a.instants.now a.frequencies.now a.mean_instants.now a.mean_frequencies.now (sym c.in_ok-refuse_means.ensures) }

pub write_means-requires : goal.write_means-requires
write_means-requires c =
    let a = c.args in
    let fit = means_areas a.instants.now a.frequencies.now a.mean_instants.now a.mean_frequencies.now (sym c.in_ok-refuse_means.ensures) in
    record { room = record { instants = fit.0; numbers = omega (arith, fit.1) } }

pub returns-clause-mean_instants_after : goal.returns-clause-mean_instants_after
returns-clause-mean_instants_after c =
    let a = c.args in
    let w = c.write_means.ensures.areas in
    let e = w.instants ∙ area-written 0 (downsample_refusal a.instants.now a.frequencies.now a.mean_instants.now a.mean_frequencies.now) (instants_of_means a.instants.now a.frequencies.now) a.mean_instants.now c.in_ok-refuse_means.ensures refl in
    let same = w.same.instants in
    search (rules, e, same)

pub returns-clause-mean_frequencies_after : goal.returns-clause-mean_frequencies_after
returns-clause-mean_frequencies_after c =
    let a = c.args in
    let w = c.write_means.ensures.areas in
    let e = w.numbers ∙ area-written 0 (downsample_refusal a.instants.now a.frequencies.now a.mean_instants.now a.mean_frequencies.now) (frequencies_of_means a.instants.now a.frequencies.now) a.mean_frequencies.now c.in_ok-refuse_means.ensures refl in
    let same = w.same.numbers in
    grind (arith, e, same)
