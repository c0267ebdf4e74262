-- "Every entry makes those checks, in this order, whose inputs it takes": the order is written once here for each entry, by number, a line for each of the
-- inputs that a check looks at. 16 stands "after 7 and before 8" (document 02, request 2.7), so behind the others here.
use Rattle.std.specs.Prelude.{ℕ, Bool, cond, List, [], ◌∷◌, ℤ, Float}
use Rattle.units.specs.declared.Seconds.{Seconds}
use Rattle.units.specs.declared.Observer.{Observer}
use Rattle.units.specs.declared.Settings.{Settings}
use Rattle.checks.specs.Checks.{any, miscounted, unsampled, too_short, beyond, unrising, any_misplaced, observer_misplaced, not_finite, no_centre, no_tolerance}

-- a check by its number, and whether it fails
pub record Check : Type 0 where
  pub number : ℕ
  pub fails : Bool

-- the check with a number, that fails or not
abbrev pub check : ℕ → Bool → Check
check n b = record { number = n; fails = b }

-- the number of the first check that fails, 0 where none does
unfoldable pub first_failing : List Check → ℕ
first_failing [] = 0
first_failing (c ∷ cs) = cond c.fails c.number (first_failing cs)

-- `evaluate`: the instant
abbrev pub evaluation_checks : ℤ → List Check
evaluation_checks t = check 4 (beyond t) ∷ []

-- `get_chebyshev_model`, `propagate_ecef`: the table, the instant and the tolerance
abbrev pub propagation_checks : List ℤ → List Float → ℤ → Seconds → List Check
propagation_checks instants positions t tolerance =
    check 1 (miscounted instants positions)
    ∷ check 4 (any beyond instants)
    ∷ check 4 (beyond t)
    ∷ check 5 (unrising instants)
    ∷ check 6 (any_misplaced positions)
    ∷ check 16 (no_tolerance tolerance)
    ∷ []

-- `find_pca_time`: the observer too
abbrev pub closest_checks : List ℤ → List Float → Observer → ℤ → Seconds → List Check
closest_checks instants positions observer t tolerance =
    check 1 (miscounted instants positions)
    ∷ check 4 (any beyond instants)
    ∷ check 4 (beyond t)
    ∷ check 5 (unrising instants)
    ∷ check 6 (any_misplaced positions)
    ∷ check 6 (observer_misplaced observer)
    ∷ check 16 (no_tolerance tolerance)
    ∷ []

-- `downsample_data`: the samples and the two areas
abbrev pub means_checks : List ℤ → List Float → List ℤ → List Float → List Check
means_checks samples frequencies instant_area frequency_area =
    check 2 (unsampled samples frequencies)
    ∷ check 3 (too_short samples instant_area frequency_area)
    ∷ check 4 (any beyond samples)
    ∷ []

-- `estimate_measured_pca_time`, the steepest slope: the samples
abbrev pub samples_checks : List ℤ → List Float → List Check
samples_checks samples frequencies =
    check 2 (unsampled samples frequencies)
    ∷ check 4 (any beyond samples)
    ∷ []

-- `fit_satellite`: table, samples, observer, centre frequency, tolerance and measured instant
abbrev pub fit_checks : List ℤ → List Float → List ℤ → List Float → Settings → ℤ → List Check
fit_checks instants positions samples frequencies s measured =
    check 1 (miscounted instants positions)
    ∷ check 2 (unsampled samples frequencies)
    ∷ check 4 (any beyond instants)
    ∷ check 4 (any beyond samples)
    ∷ check 4 (beyond measured)
    ∷ check 5 (unrising instants)
    ∷ check 6 (any_misplaced positions)
    ∷ check 6 (observer_misplaced s.observer)
    ∷ check 7 (any not_finite frequencies)
    ∷ check 7 (no_centre s.f0.0)
    ∷ check 16 (no_tolerance s.tolerance)
    ∷ []

-- the pass entry: the same without the instant, and the two areas
abbrev pub pass_checks : List ℤ → List Float → List ℤ → List Float → Settings → List ℤ → List Float → List Check
pass_checks instants positions samples frequencies s instant_area frequency_area =
    check 1 (miscounted instants positions)
    ∷ check 2 (unsampled samples frequencies)
    ∷ check 3 (too_short samples instant_area frequency_area)
    ∷ check 4 (any beyond instants)
    ∷ check 4 (any beyond samples)
    ∷ check 5 (unrising instants)
    ∷ check 6 (any_misplaced positions)
    ∷ check 6 (observer_misplaced s.observer)
    ∷ check 7 (any not_finite frequencies)
    ∷ check 7 (no_centre s.f0.0)
    ∷ check 16 (no_tolerance s.tolerance)
    ∷ []
