-- The law of the closest approach, by that of the search for the first of the best, since squared ranges are compared as doubles: each stage keeps its
-- centre where no offset has a squared range below the largest finite double, else it ends at the first of the least. Assumes nothing.
use mathlib.Core.Bool.{true}
use mathlib.Core.List.{List}
use lib.IntN.{ℤ, pos}
use lib.Ieee.{Float}
use Rattle.common.specs.Search.{first_best, Searched}
use Rattle.common.proofs.Search.{first-from-zero}
use Rattle.float.proofs.Leasts.{least_first}
use Rattle.units.specs.declared.Seconds.{Seconds}
use Rattle.units.specs.declared.Observer.{Observer}
use Rattle.orbit.specs.declared.closest.Offsets.{Offsets}
use Rattle.orbit.specs.declared.closest.LeastRange.{LeastRange}
use Rattle.orbit.specs.Closest.{nearer, centred, minutes, seconds_about, ranged_at, ranges, by_minutes, by_seconds}

module _ (tolerance : Seconds) (instants : List ℤ) (positions : List Float) (o : Observer) (around : ℤ) where
  -- of any start and any offsets: the start where no offset is nearer, else the first of the nearest
  pub first_range : (start : LeastRange) (f : Offsets) → Searched nearer start (ranged_at tolerance instants positions o around f) 0 f.count (first_best nearer start (ranges tolerance instants positions o around f))
  first_range start f = first-from-zero nearer (least_first (λ x. true) (λ x. x.range)) start (ranged_at tolerance instants positions o around f) f.count

  -- "over −50 to 50 minutes by minutes": about the given instant
  pub first_minute : Searched nearer (centred (pos 0)) (ranged_at tolerance instants positions o around minutes) 0 minutes.count (by_minutes tolerance instants positions o around)
  first_minute = first_range (centred (pos 0)) minutes

  -- "then ±60 s by seconds": about the first stage's offset
  pub first-second : (let centre = (by_minutes tolerance instants positions o around).offset in let f = seconds_about centre in
      Searched nearer (centred centre) (ranged_at tolerance instants positions o around f) 0 f.count (by_seconds tolerance instants positions o around))
  first-second = let centre = (by_minutes tolerance instants positions o around).offset in first_range (centred centre) (seconds_about centre)
