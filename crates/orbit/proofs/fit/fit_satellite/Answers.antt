-- Where no check fails the table and the samples are such as passed, and the fit is the definition's. Assumes nothing.
use mathlib.Core.Path.{refl, sym, ◌∙◌}
use lib.Ieee.{of_bits}
use Rattle.samples.specs.Means.{recording}
use Rattle.checks.specs.Entries.{first_failing, fit_checks}
use Rattle.checks.proofs.Checked.{fit_table, fit_samples, fit_near}
use Rattle.common.proofs.Outcomes.{unless_none}
use Rattle.orbit.specs.Fit.{given, fit_of}
use Rattle.orbit.specs.Residuals.{inputs_of}
use Rattle.orbit.proofs.fit.fit_satellite.Goals as goal

pub invariant_of-table : goal.invariant_of-table
invariant_of-table c =
    let a = c.args in
    record { checked = fit_table a.instants.now a.positions.now a.samples.now a.frequencies.now a.settings a.measured.0 (sym c.in_ok-refuse_fit.ensures) }

pub invariant_of-recording : goal.invariant_of-recording
invariant_of-recording c =
    let a = c.args in
    record { checked = fit_samples a.instants.now a.positions.now a.samples.now a.frequencies.now a.settings a.measured.0 (sym c.in_ok-refuse_fit.ensures) }

pub invariant_of-fit_about : goal.invariant_of-fit_about
invariant_of-fit_about c =
    let a = c.args in
    record { near = fit_near a.instants.now a.positions.now a.samples.now a.frequencies.now a.settings a.measured.0 (sym c.in_ok-refuse_fit.ensures) }

pub returns : goal.returns
unfolding of_bits
returns c =
    let a = c.args in
    let failing = first_failing (fit_checks a.instants.now a.positions.now a.samples.now a.frequencies.now a.settings a.measured.0) in
    let samples = recording a.samples.now a.frequencies.now in
    let fit = fit_of (inputs_of a.instants.now a.positions.now a.settings) samples (given a.measured.0) in
    c.fit_about.ensures ∙ unless_none 0 failing fit c.in_ok-refuse_fit.ensures refl
