-- The trial of a shift by its residuals: with enough of them it is the candidate that the code makes. And a candidate that has too few never wins.
-- Assumes nothing.
use mathlib.Core.Path.{◌≡◌, refl, sym, ap}
use mathlib.Core.Bool.{Bool, true, false, cond, ◌&&◌}
use mathlib.Core.List.{List, map}
use Prim.Native.Nat.{ℕ, ◌/◌, ◌≤◌, ◌<◌}
use borrow.Author.Tests.{lt-ltb, le-ltb}
use native.Mathlib.Omega.{arith}
use lib.ListN.{length, take, length-take}
use lib.Ieee.{Float, binary64, lt}
use Rattle.common.specs.Search.{better_of}
use Rattle.float.specs.Root.{root}
use Rattle.samples.specs.Means.{Sample}
use Rattle.orbit.specs.Fit.{Trial, trial, Best, none_yet, found, rmse_of, smaller}
use Rattle.orbit.specs.Fitting.{candidate_of}
use Rattle.orbit.specs.Residuals.{Residual, residuals, mean_over, squared_deviation}

pub length_front : {A : Type 0} (l : List A) (n : ℕ) → n ≤ length l → length (take n l) ≡ n
length_front l n h = simp length-take (omega arith)

-- a trial is named by its shift
pub shift_is : (residual : Float → Sample → Residual) (S : List Sample) (shift : Float) → (trial residual S shift).shift ≡ shift
unfolding trial
shift_is residual S shift = refl

module _ (residual : Float → Sample → Residual) (S : List Sample) (shift : Float) (ys : List Float) (are : ys ≡ residuals (residual shift) S) where
  -- too few are left
  pub too_few : length ys ≤ length S / 2 → none_yet ≡ candidate_of (trial residual S shift)
  unfolding trial
  too_few h =
      let e = le-ltb (length S / 2) (length ys) h in
      rw (← are, e)

  -- enough are left
  pub enough : (frequency_offset rmse : Float) → length S / 2 < length ys
      → frequency_offset ≡ mean_over ys
      → rmse ≡ root binary64 (mean_over (map (squared_deviation frequency_offset) ys))
      → found (record { shift = shift; frequency_offset = frequency_offset; rmse = rmse; enough = true }) ≡ candidate_of (trial residual S shift)
  unfolding trial
  enough frequency_offset rmse h m r =
      let e = lt-ltb (length S / 2) (length ys) h in
      rw (← are, e, r, m)

-- a candidate takes the place of the best exactly where its trial does
pub by_candidate : (best : Best) (t : Trial) → better_of smaller best (candidate_of t) ≡ better_of smaller best (found t)
by_candidate best t = go t.enough refl
  where
    go : (b : Bool) → t.enough ≡ b → better_of smaller best (cond b (found t) none_yet) ≡ better_of smaller best (found t)
    go true e = refl
    go false e = sym (ap (λ (x : Bool). cond (x && lt t.rmse (rmse_of best)) (found t) best) e)
