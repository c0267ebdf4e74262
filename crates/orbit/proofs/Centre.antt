-- The predicted instant is the measured one moved by an offset of the search, so the centre is near 0: in milliseconds it is that offset turned round. Assumes nothing.
use mathlib.Core.Path.{◌≡◌, refl, sym, ap, ◌∙◌, subst}
use mathlib.Core.List.{List}
use Prim.Native.Nat.{ℕ, zero, suc, ◌/◌, ◌≤◌}
use native.Mathlib.Omega.{arith}
use lib.IntN.{ℤ, pos, negsuc, neg_ℤ, nat_abs, ◌+ℤ◌, ◌-ℤ◌, ◌*ℤ◌, +ℤ_assoc, +ℤ_invr, +ℤ_idl, neg_ℤ-+ℤ}
use lib.Signed.{mag, quot_z}
use lib.Ieee.{Float}
use Rattle.common.specs.Numbers.{thousand}
use Rattle.common.specs.Time.{second, millisecond}
use Rattle.units.specs.declared.Seconds.{Seconds}
use Rattle.units.specs.declared.Observer.{Observer}
use Rattle.float.specs.Bounds.{Within}
use Rattle.float.specs.Conversions.{nearest_of}
use Rattle.float.proofs.Bounds.{div_within, nearest-within}
use Rattle.samples.specs.Approach.{gap_of}
use Rattle.orbit.specs.Bounds.{farthest_offset, farthest_centre}
use Rattle.orbit.specs.Closest.{moved_by_seconds, by_seconds, closest_instant}
use Rattle.orbit.proofs.Offsets.{farthest_move, seconds_mag}
use Rattle.orbit.proofs.Ranges.{seconds-small}

nat_abs_mag : (z : ℤ) (n : ℕ) → mag z ≤ n → nat_abs z ≤ suc n
nat_abs_mag (pos a) n h = omega arith
nat_abs_mag (negsuc a) n h = omega arith

-- from a moved instant back
difference : (m y : ℤ) → m -ℤ (m +ℤ y) ≡ neg_ℤ y
difference m y = ap (λ (x : ℤ). m +ℤ x) (neg_ℤ-+ℤ m y) ∙ sym (+ℤ_assoc m (neg_ℤ m) (neg_ℤ y)) ∙ ap (λ (x : ℤ). x +ℤ neg_ℤ y) (+ℤ_invr m) ∙ +ℤ_idl (neg_ℤ y)

nat_abs_neg : (z : ℤ) → nat_abs (neg_ℤ z) ≡ nat_abs z
nat_abs_neg (pos zero) = refl
nat_abs_neg (pos (suc n)) = refl
nat_abs_neg (negsuc n) = refl

-- as many milliseconds as the largest move has
abbrev farthest_quotient : ℕ
farthest_quotient = suc farthest_move / millisecond

quotient_small : (z : ℤ) → nat_abs z ≤ suc farthest_move → nat_abs (quot_z z (pos millisecond)) ≤ farthest_quotient
quotient_small (pos a) h = omega arith
quotient_small (negsuc a) h = let e = nat_abs_neg (pos (suc a / millisecond)) in omega (arith, e)

gap_small : (m z : ℤ) → nat_abs z ≤ farthest_offset → Within farthest_centre (gap_of (moved_by_seconds m z) m)
gap_small m z h =
    let y = z *ℤ pos second in
    let d = m -ℤ moved_by_seconds m z in
    let a : nat_abs y ≤ suc farthest_move = nat_abs_mag y farthest_move (seconds_mag z h) in
    let b : nat_abs d ≤ suc farthest_move = subst (λ (x : ℤ). nat_abs x ≤ suc farthest_move) (sym (difference m y)) (subst (λ (n : ℕ). n ≤ suc farthest_move) (sym (nat_abs_neg y)) a) in
    let q = quot_z d (pos millisecond) in
    div_within farthest_centre 1000 (nearest_of q) thousand (omega arith) (omega arith) (nearest-within farthest_quotient q (omega arith) (quotient_small d b)) (omega arith)

module _ (tolerance : Seconds) (instants : List ℤ) (positions : List Float) (o : Observer) (measured : ℤ) where
  pub centre-small : Within farthest_centre (gap_of (closest_instant tolerance instants positions o measured) measured)
  centre-small = gap_small measured (by_seconds tolerance instants positions o measured).offset (seconds-small tolerance instants positions o measured)
