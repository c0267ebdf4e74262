-- The two stages are the definition's; the first one's offset is small, so the second one's are too, and each fits. Assumes nothing.
use mathlib.Core.Path.{◌≡◌, sym, ap, ap₂, ◌∙◌, subst}
use mathlib.Core.List.{List}
use Prim.Native.Nat.{◌+◌, ◌≤◌}
use native.Mathlib.Omega.{arith}
use native.Mathlib.Nat.{le_trans}
use lib.IntN.{ℤ, pos, nat_abs, ◌-ℤ◌}
use lib.Ieee.{Float, of_bits}
use mir.Syntax.{w64}
use mir.Val.{SFits}
use mir.ValLaws.{to_z-of_z}
use Rattle.units.specs.declared.Seconds.{Seconds}
use Rattle.units.specs.declared.Observer.{Observer}
use Rattle.orbit.specs.declared.closest.LeastRange.{LeastRange}
use Rattle.common.specs.Search.{first_best}
use Rattle.orbit.specs.Closest.{moved_by_seconds, nearer, centred, minutes, seconds_about, ranges, by_minutes, by_seconds, closest_instant}
use Rattle.orbit.proofs.Offsets.{back, small-fits, before_small}
use Rattle.orbit.proofs.Ranges.{minutes-small, seconds-small}
use Rattle.orbit.specs.Bounds.{farthest_offset, reach}
use Rattle.orbit.proofs.tabulated.TabulatedOrbit.closest.Goals as goal

-- what a call is given, and the first stage, whose least is m
module _ (tolerance : Seconds) (times : List ℤ) (positions : List Float) (observer : Observer) (around : ℤ) (m : LeastRange) (e : m ≡ by_minutes tolerance times positions observer around) where
  centre_small : nat_abs m.offset ≤ reach minutes
  centre_small = subst (λ (n : LeastRange). nat_abs n.offset ≤ reach minutes) (sym e) (minutes-small tolerance times positions observer around)

  centre_is : back m.offset ≡ m.offset
  centre_is = to_z-of_z w64 m.offset (small-fits m.offset (le_trans centre_small (omega arith)))

  -- sixty seconds before it
  abbrev first : ℤ
  first = (seconds_about m.offset).first

  first_small : nat_abs first ≤ reach minutes + 60
  first_small = before_small m.offset (reach minutes) centre_small

  difference : back m.offset -ℤ pos 60 ≡ first
  difference = ap (λ (z : ℤ). z -ℤ pos 60) centre_is

  first_fits : SFits w64 first
  first_fits = small-fits first (le_trans first_small (omega arith))

  first_is : back (back m.offset -ℤ pos 60) ≡ first
  first_is = ap back difference ∙ to_z-of_z w64 first first_fits

  -- a search by seconds from a first offset about a centre, and the second stage as the code asks for it
  abbrev stage : ℤ → ℤ → LeastRange
  stage first centre = first_best nearer (centred centre) (ranges tolerance times positions observer around (record { first = first; step = 1; count = 121 }))

  module _ (s : LeastRange) (h : s ≡ stage (back (back m.offset -ℤ pos 60)) (back m.offset)) where
    seconds_are : s ≡ by_seconds tolerance times positions observer around
    seconds_are = h ∙ ap₂ stage first_is centre_is ∙ ap (λ (n : LeastRange). stage (seconds_about n.offset).first n.offset) e

    found_small : nat_abs s.offset ≤ farthest_offset
    found_small = subst (λ (n : LeastRange). nat_abs n.offset ≤ farthest_offset) (sym seconds_are) (seconds-small tolerance times positions observer around)

    found_is : back s.offset ≡ s.offset
    found_is = to_z-of_z w64 s.offset (small-fits s.offset found_small)

    moved_is : moved_by_seconds around (back s.offset) ≡ closest_instant tolerance times positions observer around
    moved_is = ap (moved_by_seconds around) (found_is ∙ ap (λ (n : LeastRange). n.offset) seconds_are)

pub overflow_sub-seconds : goal.overflow_sub-seconds
unfolding of_bits
overflow_sub-seconds c =
    let s = c.args.self.now in
    subst (SFits w64) (sym (difference s.tolerance s.table.instants.now s.table.positions.now c.args.observer c.args.around.instant.0 c.seek_least_range-by_minutes.result c.seek_least_range-by_minutes.ensures))
    (first_fits s.tolerance s.table.instants.now s.table.positions.now c.args.observer c.args.around.instant.0 c.seek_least_range-by_minutes.result c.seek_least_range-by_minutes.ensures)

pub seek_least_range-by_seconds-requires : goal.seek_least_range-by_seconds-requires
unfolding of_bits
seek_least_range-by_seconds-requires c =
    let s = c.args.self.now in
    let small = first_small s.tolerance s.table.instants.now s.table.positions.now c.args.observer c.args.around.instant.0 c.seek_least_range-by_minutes.result c.seek_least_range-by_minutes.ensures in
    let first = first_is s.tolerance s.table.instants.now s.table.positions.now c.args.observer c.args.around.instant.0 c.seek_least_range-by_minutes.result c.seek_least_range-by_minutes.ensures in
    subst (λ (z : ℤ). nat_abs z + 121 ≤ farthest_offset) (sym first) (omega (arith, small))

pub invariant_of-nearest : goal.invariant_of-nearest
unfolding of_bits
invariant_of-nearest c =
    let s = c.args.self.now in
    let small = found_small s.tolerance s.table.instants.now s.table.positions.now c.args.observer c.args.around.instant.0 c.seek_least_range-by_minutes.result c.seek_least_range-by_minutes.ensures
    c.seek_least_range-by_seconds.result c.seek_least_range-by_seconds.ensures in
    let found = found_is s.tolerance s.table.instants.now s.table.positions.now c.args.observer c.args.around.instant.0 c.seek_least_range-by_minutes.result c.seek_least_range-by_minutes.ensures
    c.seek_least_range-by_seconds.result c.seek_least_range-by_seconds.ensures in
    record { small = subst (λ (z : ℤ). nat_abs z ≤ farthest_offset) (sym found) small }

pub returns : goal.returns
unfolding of_bits
returns c =
    let s = c.args.self.now in
    c.moved_by_seconds.ensures
    ∙ moved_is s.tolerance s.table.instants.now s.table.positions.now c.args.observer c.args.around.instant.0 c.seek_least_range-by_minutes.result c.seek_least_range-by_minutes.ensures
    c.seek_least_range-by_seconds.result c.seek_least_range-by_seconds.ensures
