-- How far the offsets of the search go and move an instant, and that offsets and checked instants fit a signed count. Assumes nothing.
use mathlib.Core.Path.{◌≡◌}
use mathlib.Core.Bool.{Bool, true, false, cond}
use Prim.Native.Nat.{ℕ, suc, ◌+◌, ◌-◌, ◌*◌, ◌≤◌}
use native.Mathlib.Omega.{arith}
use native.Mathlib.Nat.{le_trans, mul-le-mul_right}
use lib.Dec.{ltb}
use lib.IntN.{ℤ, pos, negsuc, nat_abs, ◌+ℤ◌, ◌*ℤ◌}
use lib.Signed.{mag}
use mir.Syntax.{w64}
use mir.Val.{SFits, to_z, of_z}
use mir.ValLaws.{to_z-of_z}
use Rattle.float.proofs.SignedBounds.{mag_times, mag_nat_abs}
use Rattle.common.specs.Time.{second}
use Rattle.checks.specs.Limits.{farthest_instant}
use Rattle.orbit.specs.Bounds.{farthest_offset}

abbrev pub back : ℤ → ℤ
back z = to_z w64 (of_z w64 z)

-- a number of at most a, u times
pub product_mag : (a u : ℕ) (z : ℤ) → nat_abs z ≤ a → mag (z *ℤ pos u) ≤ suc a * u
product_mag a u z h = le_trans (mag_times z u) (mul-le-mul_right u (more (mag z) (mag_nat_abs z a h)))
  where
    more : (m : ℕ) → m ≤ a → suc m ≤ suc a
    more m h = omega arith

-- no offset moves an instant by more, in nanoseconds
abbrev pub farthest_move : ℕ
farthest_move = suc farthest_offset * second

pub seconds_mag : (z : ℤ) → nat_abs z ≤ farthest_offset → mag (z *ℤ pos second) ≤ farthest_move
seconds_mag = product_mag farthest_offset second

either_small : (b : Bool) (x y : ℤ) (m : ℕ) → nat_abs x ≤ m → nat_abs y ≤ m → nat_abs (cond b x y) ≤ m
either_small true x y m h k = h
either_small false x y m h k = k

-- an offset n seconds after the first
pub offset_small : (first : ℤ) (n : ℕ) → nat_abs (first +ℤ pos n) ≤ nat_abs first + n
offset_small (pos a) n = omega arith
offset_small (negsuc a) n = either_small (ltb n (suc a)) (negsuc (suc a - suc n)) (pos (n - suc a)) (suc a + n) (omega arith) (omega arith)

-- sixty seconds before a centre
pub before_small : (centre : ℤ) (n : ℕ) → nat_abs centre ≤ n → nat_abs (centre +ℤ negsuc 59) ≤ n + 60
before_small (pos a) n h = either_small (ltb a 60) (negsuc (60 - suc a)) (pos (a - 60)) (n + 60) (omega arith) (omega arith)
before_small (negsuc a) n h = omega arith

pub small-fits : (z : ℤ) → nat_abs z ≤ farthest_offset → SFits w64 z
small-fits z h = let m = mag_nat_abs z farthest_offset h in record { sfits = omega arith }

-- a checked instant as the machine holds it
pub near_is : (t : ℤ) → nat_abs t ≤ farthest_instant → back t ≡ t
near_is t h = let m = mag_nat_abs t farthest_instant h in to_z-of_z w64 t (record { sfits = omega arith })
