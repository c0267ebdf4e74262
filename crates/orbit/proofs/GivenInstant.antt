-- The fit entry's report repeats the instant that it was given and never says that it was the fallback, and counts those of its samples that lie outside the table once moved by its own clock offset: whichever
-- shift wins, a report has its basis. Assumes nothing.
use mathlib.Core.Path.{◌≡◌, refl, ap, ◌∙◌}
use mathlib.Core.Bool.{false}
use mathlib.Core.List.{List}
use Prim.Native.Nat.{ℕ, zero, suc}
use lib.IntN.{ℤ}
use lib.Ieee.{Float}
use Rattle.common.specs.Outcome.{answered, unless_refused}
use Rattle.checks.specs.Entries.{first_failing, fit_checks}
use Rattle.checks.proofs.Checked.{fit_samples}
use Rattle.samples.specs.Means.{recording}
use Rattle.samples.proofs.Recordings.{record_instants}
use Rattle.orbit.specs.declared.fit.Report.{Report}
use Rattle.orbit.specs.Residuals.{Inputs, residual_of, outside_count}
use Rattle.orbit.specs.Fit.{trial, Best, none_yet, found, first_least, shifts, Basis, basis_of, report_of_trial, none_usable_refusal, report_of_best, fit_by_trials, centre_of, fit_of, given, fit_satellite}
use Rattle.orbit.proofs.Middles.{not_refused}

-- whichever trial won
based : (basis : Basis) (b : Best) (r : Report) → report_of_best basis b ≡ answered r → (r.approach ≡ basis.measured.instant) × (r.fallback ≡ basis.measured.fallback) × (r.outside ≡ basis.outside_count r.clock_offset.0)
based basis none_yet r e = absurd (not_refused none_usable_refusal r e)
based basis (found t) r e = let same : r ≡ report_of_trial basis t = cc in (ap (λ (x : Report). x.approach) same, ap (λ (x : Report). x.fallback) same, rw same refl)

-- "always no at the fit entry, which is given its instant"; "its samples standing for the means", those that lie outside are counted of the samples
pub given-reported : (i : Inputs) (ts : List ℤ) (fs : List Float) (t : ℤ) (r : Report) → fit_satellite i ts fs t ≡ answered r → (r.approach.0 ≡ t) × (r.fallback ≡ false) × (r.outside ≡ outside_count i.instants ts r.clock_offset.0)
unfolding fit_by_trials
given-reported i ts fs t r e = go (first_failing (fit_checks i.instants i.positions ts fs i.settings t)) refl e
  where
    go : (n : ℕ) → first_failing (fit_checks i.instants i.positions ts fs i.settings t) ≡ n → unless_refused n (fit_of i (recording ts fs) (given t)) ≡ answered r
        → (r.approach.0 ≡ t) × (r.fallback ≡ false) × (r.outside ≡ outside_count i.instants ts r.clock_offset.0)
    go zero p e =
        let S = recording ts fs in
        let try = trial (residual_of i) S in
        let made = based (basis_of i.instants S (given t)) (first_least try (shifts try (centre_of i t))) r e in
        let same = (fit_samples i.instants i.positions ts fs i.settings t p).same in
        (ap (λ x. x.0) made.0, made.1, made.2 ∙ ap (λ (l : List ℤ). outside_count i.instants l r.clock_offset.0) (record_instants ts fs same))
    go (suc n) p e = absurd (not_refused (suc n) r e)
