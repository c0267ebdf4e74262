-- The pass entry: "Checks, means, measured approach or else the mean at index count/2 ..., fit on the means".
use Rattle.std.specs.Prelude.{ℕ, ◌/◌, true, false, List, ℤ, pos, length, get_or, Float}
use Rattle.common.specs.Outcome.{Outcome, refused, answered, unless_refused, area}
use Rattle.checks.specs.Entries.{first_failing, pass_checks}
use Rattle.samples.specs.Means.{Sample, recording, means, instants, frequencies}
use Rattle.samples.specs.Approach.{approach_of}
use Rattle.orbit.specs.declared.fit.Report.{Report}
use Rattle.orbit.specs.Fit.{Measured, fit_of}
use Rattle.orbit.specs.Residuals.{Inputs}

-- a measured approach, or else, exactly where it is refused (by 9, the one refusal that `approach_of` has), the fallback: which instant, and which of the two
abbrev pub approach_or : ℤ → Outcome ℤ → Measured
approach_or middle (refused n) = record { instant = record { 0 = middle }; fallback = true }
approach_or middle (answered t) = record { instant = record { 0 = t }; fallback = false }

-- the instant at index count/2
abbrev pub middle_of : List ℤ → ℤ
middle_of ts = get_or ts (length ts / 2) (pos 0)

-- the measured approach of samples in two slices, or else their middle
abbrev pub measured_by : List ℤ → List Float → Measured
measured_by ts fs = approach_or (middle_of ts) (approach_of ts fs)

-- the same of a list of samples
abbrev pub measured_of : List Sample → Measured
measured_of M = measured_by (instants M) (frequencies M)

-- the fit on the means
abbrev pub pass_outcome : Inputs → List Sample → Outcome Report
pass_outcome i S = let M = means S in fit_of i M (measured_of M)

-- ---- the entry: checks 1 to 7 and 16, then 10

-- the number of the first check that fails, 0 where none does
abbrev pub pass_refusal : Inputs → List ℤ → List Float → List ℤ → List Float → ℕ
pass_refusal i ts fs instant_area frequency_area =
    first_failing (pass_checks i.instants i.positions ts fs i.settings instant_area frequency_area)

-- a refusal by a check, or the outcome on the means
abbrev pub pass : Inputs → List ℤ → List Float → List ℤ → List Float → Outcome Report
pass i ts fs instant_area frequency_area = unless_refused (pass_refusal i ts fs instant_area frequency_area) (pass_outcome i (recording ts fs))

-- a refusal by a check writes nothing; 10 leaves the means written: they stand at the front, the rest of each area untouched
abbrev pub pass_instants : Inputs → List ℤ → List Float → List ℤ → List Float → List ℤ
pass_instants i ts fs instant_area frequency_area =
    area (pass_refusal i ts fs instant_area frequency_area) (instants (means (recording ts fs))) instant_area

-- the same of the area for frequencies
abbrev pub pass_frequencies : Inputs → List ℤ → List Float → List ℤ → List Float → List Float
pass_frequencies i ts fs instant_area frequency_area =
    area (pass_refusal i ts fs instant_area frequency_area) (frequencies (means (recording ts fs))) frequency_area
