-- From the best found to what the measured approach answers. Assumes nothing.
use mathlib.Core.Path.{◌≡◌, sym, ap, ◌∙◌}
use mathlib.Core.Bool.{Bool, cond}
use mathlib.Core.List.{List}
use Prim.Native.Nat.{ℕ}
use lib.IntN.{ℤ, pos}
use lib.ListN.{get_or}
use lib.Ieee.{Float, lt}
use Rattle.common.specs.Outcome.{Outcome, refused, answered}
use Rattle.common.specs.Numbers.{nought}
use Rattle.samples.specs.declared.approach.LeastSlope.{LeastSlope}
use Rattle.samples.specs.Approach.{no_floor, least_slope, approach_of, no_fall_refusal}

-- ---- the instant of the best's middle, where its slope is below zero

module _ (ts : List ℤ) (fs : List Float) (best : LeastSlope) (e : best ≡ least_slope no_floor ts fs) where
  abbrev by : Bool → ℕ → Outcome ℤ
  by b k = cond b (answered (get_or ts k (pos 0))) (refused no_fall_refusal)

  pub approach_is : (b : Bool) → lt best.slope nought ≡ b → by b best.middle ≡ approach_of ts fs
  approach_is b h = ap (λ (x : Bool). by x best.middle) (sym h) ∙ ap (λ (x : LeastSlope). by (lt x.slope nought) x.middle) e
