-- Inner: an axis, what a fit is given and what its search holds, as the Rust keeps them and as the definitions have them.
use Rattle.std.specs.Prelude.{ℕ, cond, true, List, map, Float, Option, Some, None}
use Rattle.common.specs.Rounded.{◌⊖◌}
use Rattle.common.specs.Search.{first_best}
use Rattle.units.specs.declared.Hertz.{Hertz}
use Rattle.samples.specs.Means.{Sample, recording}
use Rattle.orbit.specs.declared.window.Axis.{Axis}
use Rattle.orbit.specs.declared.window.Axis.TheVariants.{X, Y, Z}
use Rattle.orbit.specs.declared.fit.Approach.{Approach}
use Rattle.orbit.specs.declared.fitting.Fitting.{Fitting}
use Rattle.orbit.specs.declared.stages.Stage.{Stage}
use Rattle.orbit.specs.declared.stages.SearchSpan.{SearchSpan}
use Rattle.orbit.specs.declared.stages.Candidate.{Candidate}
use Rattle.orbit.specs.Residuals.{Inputs, inputs_of, settings_of, Residual, skipped, residual, residual_of}
use Rattle.orbit.specs.Fit.{Measured, Trial, trial, Best, none_yet, found, smaller, shifts_of}

-- an axis by its place among the three doubles of a coordinate
abbrev pub place_of_axis : Axis → ℕ
place_of_axis X = 0
place_of_axis Y = 1
place_of_axis Z = 2

-- the inputs of a fit beside its samples
abbrev pub inputs_by : Fitting → Inputs
inputs_by f = inputs_of f.orbit.table.instants.now f.orbit.table.positions.now (settings_of f.observer f.f0 f.orbit.tolerance)

-- its samples
abbrev pub sampled_by : Fitting → List Sample
sampled_by f = recording f.recording.instants.now f.recording.frequencies.now

-- the instant that a fit is taken about
abbrev pub measured_in : Approach → Measured
measured_in a = record { instant = a.instant.instant; fallback = a.fallback }

-- the trial of a shift
abbrev pub trial_by : Fitting → Float → Trial
trial_by f = trial (residual_of (inputs_by f)) (sampled_by f)

-- a residual, if there is one
abbrev pub residual_told : Option Hertz → Residual
residual_told None = skipped
residual_told (Some r) = residual r.0

-- a candidate is a trial that has enough samples left
abbrev pub trial_in : Candidate → Trial
trial_in c = record { shift = c.shift.seconds.0; frequency_offset = c.frequency_offset.0; rmse = c.rmse.0; enough = true }

-- the best candidate, if there is one
abbrev pub best_in : Option Candidate → Best
best_in None = none_yet
best_in (Some c) = found (trial_in c)

-- a trial as a candidate: none where too few samples are left
abbrev pub candidate_of : Trial → Best
candidate_of t = cond t.enough (found t) none_yet

-- a stage about a centre
abbrev pub stage_about : SearchSpan → Float → Stage
stage_about span centre = record { start = record { 0 = centre ⊖ span.before.0 }; increment = span.increment; steps = span.steps }

-- the best after the shifts of a stage
abbrev pub after_stage : (Float → Trial) → Stage → Best → Best
after_stage try stage best = first_best smaller best (map (λ x. found (try x)) (shifts_of stage))
