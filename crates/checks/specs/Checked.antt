-- Inner: what holds of inputs that passed their checks, which the functions behind an entry rely on; and the checks that several
-- entries begin or end with.
use Rattle.std.specs.Prelude.{ℕ, ◌*◌, ◌≤◌, ◌<◌, ◌≡◌, false, List, [], ◌∷◌, ℤ, pos, nat_abs, Float, length, get_or}
use Rattle.checks.specs.Limits.{least_coordinates, most_coordinates, axes, most_samples, farthest_instant}
use Rattle.units.specs.declared.Settings.{Settings}
use Rattle.checks.specs.Checks.{any, miscounted, beyond, unrising, any_misplaced, observer_misplaced, not_finite, no_centre, no_tolerance}
use Rattle.checks.specs.Entries.{Check, check}

-- the coordinates: how many, in which order and how far from 1970 (checks 1, 4, 5)
pub record Table (instants : List ℤ) (positions : List Float) : Type 0 where
  pub enough : least_coordinates ≤ length instants
  pub few : length instants ≤ most_coordinates
  pub three : length positions ≡ axes * length instants
  pub near : (k : ℕ) → nat_abs (get_or instants k (pos 0)) ≤ farthest_instant
  pub risen : unrising instants ≡ false

-- the samples: how many and how far from 1970 (checks 2, 4)
pub record Samples (samples : List ℤ) (frequencies : List Float) : Type 0 where
  pub some : 0 < length samples
  pub few : length samples ≤ most_samples
  pub same : length frequencies ≡ length samples
  pub near : (k : ℕ) → nat_abs (get_or samples k (pos 0)) ≤ farthest_instant

-- the checks of a table and an instant: those of propagation and of the closest approach begin with them
abbrev pub table_checks : List ℤ → List Float → ℤ → List Check
table_checks instants positions t =
    check 1 (miscounted instants positions)
    ∷ check 4 (any beyond instants)
    ∷ check 4 (beyond t)
    ∷ check 5 (unrising instants)
    ∷ check 6 (any_misplaced positions)
    ∷ []

-- the checks of the table's values, the frequencies and the settings: those of fit and pass end with them
abbrev pub value_checks : List ℤ → List Float → List Float → Settings → List Check
value_checks instants positions frequencies s =
    check 5 (unrising instants)
    ∷ check 6 (any_misplaced positions)
    ∷ check 6 (observer_misplaced s.observer)
    ∷ check 7 (any not_finite frequencies)
    ∷ check 7 (no_centre s.f0.0)
    ∷ check 16 (no_tolerance s.tolerance)
    ∷ []
