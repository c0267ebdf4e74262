-- The values so far and the residuals of the samples that are left make up those of the whole recording. Assumes nothing.
use mathlib.Core.Path.{◌≡◌}
use mathlib.Core.List.{◌++◌}
use Prim.Native.Nat.{ℕ, ◌+◌, ◌≤◌}
use lib.IntN.{ℤ, pos, nat_abs, ◌-ℤ◌, ◌*ℤ◌}
use lib.ListN.{length, get_or, take}
use Rattle.common.specs.Time.{microsecond}
use Rattle.samples.specs.Means.{Sample, recording}
use Rattle.checks.specs.Limits.{farthest_instant, most_samples}
use Rattle.orbit.specs.Residuals.{Inputs, Residual, residual_in, residuals, propagated_by}
use Rattle.orbit.specs.Fitting.{inputs_by, sampled_by}
use Rattle.orbit.proofs.fitting.Fitting.collect_residuals.Given as goal

-- the residual of a sample that is moved earlier by a count of microseconds
abbrev pub residual_by : Inputs → ℤ → Sample → Residual
residual_by i micros x = residual_in i.settings x.frequency (propagated_by i (x.instant -ℤ micros *ℤ pos microsecond))

abbrev pub invariant-loop-t : goal.invariant-loop-t
invariant-loop-t l =
    let residual = residual_by (inputs_by l.self) l.micros.count in
    let left = l.t-iterator.a.rest.now in
    record {
      few : l.count + length left ≤ length l.self.recording.instants.now;
      room : length l.values ≡ most_samples;
      near : (k : ℕ) → nat_abs (get_or left k (pos 0)) ≤ farthest_instant;
      made : take l.count l.values ++ residuals residual (recording left l.t-iterator.b.rest.now) ≡ residuals residual (sampled_by l.self);
    }
