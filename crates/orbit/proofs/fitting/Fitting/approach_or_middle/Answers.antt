-- The samples passed their checks, so the entry's answer is the definition's: the approach, or else the middle. Assumes nothing.
use mathlib.Core.Path.{◌≡◌, sym, ap, ◌∙◌, subst}
use Prim.Native.Nat.{ℕ, ◌/◌, ◌≤◌}
use lib.IntN.{ℤ, nat_abs}
use lib.ListN.{length}
use Rattle.common.specs.Outcome.{refused, answered, unless_refused}
use Rattle.checks.proofs.Checked.{samples-pass}
use Rattle.checks.specs.Limits.{farthest_instant}
use Rattle.samples.specs.Approach.{approach_of}
use Rattle.orbit.specs.Fit.{Measured}
use Rattle.orbit.specs.Passes.{approach_or, middle_of}
use Rattle.orbit.proofs.Offsets.{near_is}
use Rattle.orbit.proofs.Middles.{measured-near}
use Rattle.orbit.proofs.fitting.Fitting.approach_or_middle.Goals as goal

pub invariant_of-result : goal.invariant_of-result
invariant_of-result c =
    let r = c.args.self.now.recording in
    let ts = r.instants.now in
    let fs = r.frequencies.now in
    let found : answered c.in-Ok.instant.0 ≡ approach_of ts fs = c.in-Ok.ensures ∙ ap (λ (n : ℕ). unless_refused n (approach_of ts fs)) (samples-pass ts fs r.checked) in
    let e = ap (approach_or (middle_of ts)) found in
    record { near = subst (λ (m : Measured). nat_abs m.instant.0 ≤ farthest_instant) (sym e) (measured-near ts fs r.checked.near) }

pub returns-in-Ok : goal.returns-in-Ok
returns-in-Ok c =
    let r = c.args.self.now.recording in
    let ts = r.instants.now in
    let fs = r.frequencies.now in
    ap (approach_or (middle_of ts)) (c.in-Ok.ensures ∙ ap (λ (n : ℕ). unless_refused n (approach_of ts fs)) (samples-pass ts fs r.checked))

pub returns-in-Err : goal.returns-in-Err
returns-in-Err c =
    let r = c.args.self.now.recording in
    let ts = r.instants.now in
    let fs = r.frequencies.now in
    let found = c.in-Err.ensures ∙ ap (λ (n : ℕ). unless_refused n (approach_of ts fs)) (samples-pass ts fs r.checked) in
    ap (λ (z : ℤ). approach_or z (refused 0)) (near_is (middle_of ts) (r.checked.near (length ts / 2))) ∙ ap (approach_or (middle_of ts)) found
