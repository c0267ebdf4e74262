-- The difference of two instants within 4.1e18 of 1970, which holds those within 4e18 and those some seconds from them, fits an i64, and so does its quotient; each is the definition's. Assumes nothing.
use mathlib.Core.Path.{◌≡◌, sym, ap, ap₂, ◌∙◌, subst}
use Prim.Native.Nat.{ℕ, zero, suc, ◌+◌, ◌-◌, ◌/◌, ◌≤◌}
use native.Mathlib.Nat.{div-le_self, lt_of_le_of_lt, le_of_suc-le-suc}
use native.Mathlib.Omega.{arith}
use lib.Dec.{ltb}
use lib.IntN.{ℤ, pos, negsuc, neg_ℤ, nat_abs, sub_ℕ, ◌-ℤ◌}
use lib.Signed.{mag, quot_z}
use mir.Syntax.{w64}
use mir.Val.{SFits}
use mir.ValLaws.{to_z-of_z}
use Rattle.common.proofs.Parts.{back}
use Rattle.float.proofs.SignedBounds.{mag_either}
use Rattle.samples.specs.Runs.{farthest_moved}

-- ---- the magnitude of a difference and of a quotient

mag_sub : (a b n : ℕ) → a ≤ n → b ≤ n → mag (sub_ℕ a b) ≤ n
mag_sub a b n h k = mag_either (ltb a b) (negsuc (b - suc a)) (pos (a - b)) n (omega arith) (omega arith)

pub mag_difference : (n : ℕ) (x y : ℤ) → nat_abs x ≤ n → nat_abs y ≤ n → mag (x -ℤ y) ≤ n + n
mag_difference n (pos a) (pos zero) h k = omega arith
mag_difference n (pos a) (pos (suc b)) h k = let s = mag_sub a (suc b) n h k in omega arith
mag_difference n (pos a) (negsuc b) h k = omega arith
mag_difference n (negsuc a) (pos zero) h k = let s = mag_sub 0 (suc a) n (omega arith) h in omega arith
mag_difference n (negsuc a) (pos (suc b)) h k = omega arith
mag_difference n (negsuc a) (negsuc b) h k = let s = mag_sub (suc b) (suc a) n k h in omega arith

mag_neg : (r a : ℕ) → r ≤ suc a → mag (neg_ℤ (pos r)) ≤ a
mag_neg zero a h = omega arith
mag_neg (suc r) a h = le_of_suc-le-suc h

pub mag_quotient : (z : ℤ) (k : ℕ) → mag (quot_z z (pos k)) ≤ mag z
mag_quotient (pos a) k = div-le_self a k
mag_quotient (negsuc a) k = mag_neg (suc a / k) a (div-le_self (suc a) k)

-- ---- as the machine holds them

-- an instant that is within the limit, or was before it was moved
abbrev pub Near : ℤ → Type 0
Near z = nat_abs z ≤ farthest_moved

near_fits : (z : ℤ) → Near z → SFits w64 z
near_fits (pos a) h = record { sfits = omega arith }
near_fits (negsuc a) h = record { sfits = omega arith }

pub back_near : (z : ℤ) → Near z → back z ≡ z
back_near z h = to_z-of_z w64 z (near_fits z h)

module _ (x y : ℤ) (near-x : Near x) (near-y : Near y) where
  difference-fits : SFits w64 (x -ℤ y)
  difference-fits = let h = mag_difference farthest_moved x y near-x near-y in record { sfits = omega arith }

  quotient_fits : (k : ℕ) → SFits w64 (quot_z (x -ℤ y) (pos k))
  quotient_fits k = record { sfits = lt_of_le_of_lt (mag_quotient (x -ℤ y) k) difference-fits.sfits }

  read : back x -ℤ back y ≡ x -ℤ y
  read = ap₂ ◌-ℤ◌ (back_near x near-x) (back_near y near-y)

  pub subtracts : SFits w64 (back x -ℤ back y)
  subtracts = subst (SFits w64) (sym read) difference-fits

  read_back : back (back x -ℤ back y) ≡ x -ℤ y
  read_back = ap back read ∙ to_z-of_z w64 (x -ℤ y) difference-fits

  pub divides : (k : ℕ) → SFits w64 (quot_z (back (back x -ℤ back y)) (pos k))
  divides k = subst (λ (z : ℤ). SFits w64 (quot_z z (pos k))) (sym read_back) (quotient_fits k)

  pub divided : (k : ℕ) → back (quot_z (back (back x -ℤ back y)) (pos k)) ≡ quot_z (x -ℤ y) (pos k)
  divided k = ap (λ (z : ℤ). back (quot_z z (pos k))) read_back ∙ to_z-of_z w64 (quot_z (x -ℤ y) (pos k)) (quotient_fits k)
