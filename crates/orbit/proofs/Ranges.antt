-- An offset of the search for the closest approach that has no position, and how far the offsets go. Assumes nothing.
use mathlib.Core.Path.{◌≡◌, sym, ap, ◌∙◌}
use mathlib.Core.List.{List}
use Prim.Native.Nat.{ℕ, ◌*◌, ◌≤◌}
use native.Mathlib.Omega.{arith}
use native.Mathlib.Nat.{le_trans, le_of_lt, mul-le-mul_left}
use lib.IntN.{ℤ, pos, nat_abs}
use lib.Ieee.{Float, lt}
use Rattle.units.specs.declared.Observer.{Observer}
use Rattle.orbit.specs.declared.closest.LeastRange.{LeastRange}
use Rattle.orbit.specs.declared.propagation.Motion.{Motion}
use Rattle.orbit.specs.Closest.{range_in, nearer, centred, minutes, seconds_about, ranged_at, ranges, by_minutes, by_seconds}
use Rattle.std.specs.Prelude.{Result, Err}
use Rattle.common.specs.Outcome.{Outcome}
use Rattle.common.specs.Refusals.{told}
use Rattle.common.specs.declared.refusal.Refusal.{Refusal}
use Rattle.common.specs.Search.{better_of, first_best}
use Rattle.common.proofs.Search.{found_among}
use Rattle.orbit.proofs.Offsets.{offset_small, before_small}
use Rattle.orbit.proofs.FirstRange.{first_range}
use Rattle.orbit.specs.Bounds.{farthest_offset, reach}
use Rattle.units.specs.declared.Seconds.{Seconds}
use Rattle.orbit.specs.declared.closest.Offsets.{Offsets}

-- no position, no range
pub nearer-refused : (o : Observer) (r : Result Motion Refusal) (q : Outcome Motion) (x : Refusal) (offset : ℤ) (best : LeastRange) → told (λ m. m) r ≡ q → r ≡ Err x
    → best ≡ better_of nearer best (record { range = range_in o q; offset = offset })
unfolding lt
nearer-refused o r q x offset best e er = ap (λ (q : Outcome Motion). better_of nearer best (record { range = range_in o q; offset = offset })) (sym (ap (told {B = Motion} (λ m. m)) er) ∙ e)

module _ (tolerance : Seconds) (instants : List ℤ) (positions : List Float) (o : Observer) (around : ℤ) where
  -- the nearest's offset is the start's or one of those tried
  stage_small : (f : Offsets) (start : LeastRange) (m : ℕ) → nat_abs start.offset ≤ m → reach f ≤ m → nat_abs (first_best nearer start (ranges tolerance instants positions o around f)).offset ≤ m
  stage_small f start m h l =
      found_among nearer start (ranged_at tolerance instants positions o around f) 0 f.count (λ x. nat_abs x.offset ≤ m) (first_range tolerance instants positions o around start f) h
      (λ j u v.
      let a : f.step * j ≤ f.step * f.count = mul-le-mul_left f.step (le_of_lt v) in
      le_trans (offset_small f.first (f.step * j)) (omega arith))

  -- how far the offsets of the two stages may be off 0
  pub minutes-small : nat_abs (by_minutes tolerance instants positions o around).offset ≤ reach minutes
  minutes-small = stage_small minutes (centred (pos 0)) (reach minutes) (omega arith) (omega arith)

  pub seconds-small : nat_abs (by_seconds tolerance instants positions o around).offset ≤ farthest_offset
  seconds-small =
      let centre = (by_minutes tolerance instants positions o around).offset in
      let f = before_small centre (reach minutes) minutes-small in
      stage_small (seconds_about centre) (centred centre) farthest_offset (le_trans minutes-small (omega arith)) (omega (arith, f))
