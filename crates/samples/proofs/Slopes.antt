-- A sample's slope against the best so far, by the code's three tests, and the search for the first least, a sample for each step. Assumes nothing.
use mathlib.Core.Path.{◌≡◌, sym, ap, ap₂, ◌∙◌}
use mathlib.Core.Bool.{Bool, true, false, not, ◌&&◌, cond}
use mathlib.Core.List.{List}
use Prim.Native.Nat.{ℕ, ◌+◌, ◌-◌, ◌<◌}
use native.Mathlib.Nat.{le_trans}
use native.Mathlib.Omega.{arith}
use lib.IntN.{ℤ, pos}
use lib.ListN.{length, get_or}
use lib.Ieee.{Float, nan, binary64, sub, div, lt}
use Rattle.common.specs.Numbers.{nought}
use Rattle.common.specs.Lists.{list_of}
use Rattle.common.specs.Search.{better_of, first_best}
use Rattle.common.proofs.Parts.{back}
use Rattle.samples.specs.declared.approach.LeastSlope.{LeastSlope}
use Rattle.samples.specs.Runs.{Limited}
use Rattle.samples.specs.Approach.{gap_of, gap_at, sloped, steeper, no_slope_yet, least_slope}
use Rattle.samples.proofs.Gaps.{back_near}

-- ---- one sample against the best so far, by the three tests: a gap, not under the floor, below the best

module _ (floor : Float) (ts : List ℤ) (fs : List Float) (i : ℕ) (best : LeastSlope) (near : Limited ts) (gap : Float) (e : gap ≡ gap_of (back (get_or ts (i - 1) (pos 0))) (back (get_or ts (i + 1) (pos 0)))) where
  abbrev slope_by : Float → Float
  slope_by g = div binary64 (sub binary64 (get_or fs (i + 1) nan) (get_or fs (i - 1) nan)) g

  abbrev steeper_by : Float → Bool
  steeper_by g = lt nought g && not (lt (slope_by g) floor) && lt (slope_by g) best.slope

  -- the gap is the definition's, since the machine holds both instants
  gap_is : gap ≡ gap_at ts i
  gap_is =
      let held : (k : ℕ) → back (get_or ts k (pos 0)) ≡ get_or ts k (pos 0) = λ k. back_near (get_or ts k (pos 0)) (le_trans (near k) (omega arith)) in
      e ∙ ap₂ gap_of (held (i - 1)) (held (i + 1))

  pub kept : steeper_by gap ≡ false → best ≡ better_of (steeper floor ts) best (sloped ts fs i)
  kept h = ap (λ (b : Bool). cond b (sloped ts fs i) best) (sym h ∙ ap steeper_by gap_is)

  pub taken : steeper_by gap ≡ true → ◌≡◌ {A = LeastSlope} (record { slope = slope_by gap; middle = i }) (better_of (steeper floor ts) best (sloped ts fs i))
  taken h = ap {B = LeastSlope} (λ (g : Float). record { slope = slope_by g; middle = i }) gap_is ∙ ap (λ (b : Bool). cond b (sloped ts fs i) best) (sym h ∙ ap steeper_by gap_is)

-- ---- the search

-- the better's middle is a sample as both are
pub middle_in : (b : Bool) (s t : LeastSlope) (k : ℕ) → s.middle < k → t.middle < k → (cond b s t).middle < k
middle_in true s t k h l = h
middle_in false s t k h l = l

module _ (floor : Float) (ts : List ℤ) (fs : List Float) where
  -- what the search from sample i on makes of a best so far
  abbrev pub rest : ℕ → LeastSlope → LeastSlope
  rest i best = first_best (steeper floor ts) best (list_of (sloped ts fs) (length ts - 1 - i) i)

  -- the whole search is that from sample 1 on
  pub rest_start : rest 1 no_slope_yet ≡ least_slope floor ts fs
  rest_start =
      let e : length ts - 1 - 1 ≡ length ts - 2 = omega arith in
      ap (λ (k : ℕ). first_best (steeper floor ts) no_slope_yet (list_of (sloped ts fs) k 1)) e
