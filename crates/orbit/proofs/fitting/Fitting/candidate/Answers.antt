-- The values hold the residuals, so their mean is the frequency offset and the root of their mean squared rest the RMSE. Assumes nothing.
use mathlib.Core.Path.{◌≡◌, ap, ◌∙◌}
use native.Mathlib.Omega.{arith}
use lib.ListN.{length, take}
use lib.Ieee.{binary64}
use Rattle.float.specs.Root.{root}
use Rattle.samples.proofs.Recordings.{record_length}
use Rattle.orbit.specs.Residuals.{residual_of}
use Rattle.orbit.specs.Fitting.{inputs_by, sampled_by}
use Rattle.orbit.proofs.Trials.{length_front, too_few, enough}
use Rattle.orbit.proofs.fitting.Fitting.candidate.Goals as goal

pub returns-then-count-self : goal.returns-then-count-self
returns-then-count-self c =
    let f = c.args.self.now in
    let r = f.recording in
    let call = c.collect_residuals-count in
    let ys = take call.result call.new.values in
    let all = record_length r.instants.now r.frequencies.now r.checked.same in
    let many : length ys ≡ call.result = length_front call.new.values call.result (omega (arith, call.ensures.0, call.array_long, r.checked.few)) in
    too_few (residual_of (inputs_by f)) (sampled_by f) c.args.shift.seconds.0 ys call.ensures.1 (omega (arith, all, many, c.if-count-self.true))

pub returns : goal.returns
returns c =
    let f = c.args.self.now in
    let r = f.recording in
    let call = c.collect_residuals-count in
    let ys = take call.result call.new.values in
    let all = record_length r.instants.now r.frequencies.now r.checked.same in
    let many : length ys ≡ call.result = length_front call.new.values call.result (omega (arith, call.ensures.0, call.array_long, r.checked.few)) in
    enough (residual_of (inputs_by f)) (sampled_by f) c.args.shift.seconds.0 ys call.ensures.1 c.mean_of-mean.result c.sqrt.result (omega (arith, all, many, c.if-count-self.false)) c.mean_of-mean.ensures (c.sqrt.ensures ∙ ap (root binary64) c.mean_square_off.ensures)
