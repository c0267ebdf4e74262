-- Every shift is small, and so are its microseconds. Assumes nothing.
use Prim.Native.Nat.{ℕ, ◌+◌, ◌≤◌}
use native.Mathlib.Omega.{arith}
use native.Mathlib.Nat.{le_trans, mul-le-mul_right}
use lib.IntN.{pos, nat_abs}
use lib.Ieee.{Float, nan, inf, fin, down}
use Rattle.common.specs.Rounded.{◌⊗◌}
use Rattle.float.specs.Bounds.{Within}
use Rattle.float.specs.Conversions.{nearest_of}
use Rattle.float.proofs.Bounds.{add_within, mul_within, nearest-within, truncated-within}
use Rattle.orbit.specs.Fit.{shift_at}
use Rattle.orbit.specs.Residuals.{whole_microseconds}
use Rattle.orbit.specs.Bounds.{farthest_shift, farthest_micros, most_steps, farthest_start}
use Rattle.orbit.specs.declared.stages.Stage.{Stage}
use Rattle.common.specs.Numbers.{million}

pub microseconds_small : (shift : Float) → Within farthest_shift shift → nat_abs (whole_microseconds shift) ≤ farthest_micros
microseconds_small shift h = truncated-within farthest_micros (shift ⊗ million) (mul_within farthest_shift 1000000 shift million (omega arith) h (omega arith))

-- ---- every shift of every stage is small

pub weaken : (a b : ℕ) (x : Float) → a ≤ b → Within a x → Within b x
weaken a b nan l h = h
weaken a b (inf s) l h = h
weaken a b (fin s m e) l h = le_trans h (mul-le-mul_right (down e) l)

-- a stage of few steps that starts within a has its shifts within a + most_steps
pub stage_within : (a : ℕ) (stage : Stage) (step : ℕ) → a ≤ farthest_start → step ≤ most_steps → Within a stage.start.0 → Within 1 stage.increment.0 → Within (a + most_steps) (shift_at stage step)
stage_within a stage step small few h k =
    let n : Within most_steps (nearest_of (pos step)) = nearest-within most_steps (pos step) (omega arith) few in
    let p : Within most_steps (nearest_of (pos step) ⊗ stage.increment.0) = mul_within most_steps 1 (nearest_of (pos step)) stage.increment.0 (omega arith) n k in
    add_within a most_steps stage.start.0 (nearest_of (pos step) ⊗ stage.increment.0) (omega arith) h p
