-- The stages run one after the other end where the search of the whole list does; the centre and so every shift is small. Assumes nothing.
use mathlib.Core.Path.{◌≡◌, refl, sym, ap, ◌∙◌, subst}
use mathlib.Core.Bool.{Bool, true, false, cond}
use mathlib.Core.List.{[], ◌++◌, append-nil}
use Prim.Native.Nat.{ℕ, ◌+◌, ◌≤◌}
use native.Mathlib.Omega.{arith}
use lib.Ieee.{Float, lt}
use Rattle.common.specs.Rounded.{◌⊖◌}
use Rattle.common.specs.Search.{first_best}
use Rattle.common.specs.Numbers.{nought, five, fifteen, twentieth, thousandth}
use Rattle.float.specs.Signs.{magnitude_of}
use Rattle.float.specs.Bounds.{Within}
use Rattle.float.proofs.Bounds.{sub_within}
use Rattle.orbit.specs.declared.stages.Stage.{Stage}
use Rattle.orbit.specs.Bounds.{SmallStage, farthest_centre, farthest_coarse, farthest_start, farthest_fine, farthest_shift}
use Rattle.orbit.specs.Fit.{Trial, Best, none_yet, found, first_least, shifts_of, coarse_stage, fine_stage, micro_stage, coarse, shifts}
use Rattle.orbit.specs.Fitting.{after_stage}
use Rattle.orbit.proofs.Shifts.{weaken}
use Rattle.orbit.proofs.Updates.{BestWithin, stage_kept}
use Rattle.orbit.proofs.FirstLeast.{next_stage, still_found}
use Rattle.orbit.proofs.ListOfShifts.{stage_after, least_by_stages}

-- ---- every stage is small

-- a stage's start: a little before a shift
start-within : (a b : ℕ) (x y : Float) → a + b ≤ farthest_start → Within a x → Within b y → Within farthest_start (x ⊖ y)
start-within a b x y l h k = weaken (a + b) farthest_start (x ⊖ y) l (sub_within a b x y (omega arith) h k)

pub coarse-fits : (centre : Float) → Within farthest_centre centre → SmallStage (coarse_stage centre)
coarse-fits centre h = record { start = start-within farthest_centre 15 centre fifteen (omega arith) h (omega arith); increment = omega arith; steps = omega arith }

pub fine_fits : (best : Float) → Within farthest_coarse best → SmallStage (fine_stage best)
fine_fits best h = record { start = start-within farthest_coarse 1 best twentieth (omega arith) h (omega arith); increment = omega arith; steps = omega arith }

pub micro_fits : (best : Float) → Within farthest_fine best → SmallStage (micro_stage best)
micro_fits best h = record { start = start-within farthest_fine 1 best thousandth (omega arith) h (omega arith); increment = omega arith; steps = omega arith }

module _ (try : Float → Trial) where
  -- ---- the coarse stage, about one centre and about two

  pub coarse-one : (centre : Float) → lt five (magnitude_of centre) ≡ false → after_stage try (coarse_stage centre) none_yet ≡ first_least try (coarse centre)
  unfolding coarse
  coarse-one centre h =
      let first = shifts_of (coarse_stage centre) in
      let second = shifts_of (coarse_stage nought) in
      sym (ap (λ (v : Bool). first_least try (first ++ cond v second [])) h ∙ ap (first_least try) (append-nil first))

  pub coarse-two : (centre : Float) → lt five (magnitude_of centre) ≡ true → after_stage try (coarse_stage nought) (after_stage try (coarse_stage centre) none_yet) ≡ first_least try (coarse centre)
  unfolding coarse
  coarse-two centre h =
      let first = shifts_of (coarse_stage centre) in
      let second = shifts_of (coarse_stage nought) in
      sym (ap (λ (v : Bool). first_least try (first ++ cond v second [])) h ∙ next_stage try first second)

  -- ---- the stages after it

  -- without a usable coarse shift nothing is found
  pub none_at_all : (centre : Float) → none_yet ≡ first_least try (coarse centre) → none_yet ≡ first_least try (shifts try centre)
  unfolding first_best
  none_at_all centre e = sym (least_by_stages try centre ∙ ap (λ (b : Best). stage_after try micro_stage (stage_after try fine_stage b)) (sym e))

  -- with one the best after the micro stage is the first least of all the shifts
  pub all_stages : (centre : Float) (t u : Trial) → found t ≡ first_least try (coarse centre) → found u ≡ after_stage try (fine_stage t.shift) (found t)
      → after_stage try (micro_stage u.shift) (found u) ≡ first_least try (shifts try centre)
  all_stages centre t u e f =
      sym (least_by_stages try centre
      ∙ ap (λ (b : Best). stage_after try micro_stage (stage_after try fine_stage b)) (sym e)
      ∙ ap (stage_after try micro_stage) (sym f))

  -- what was found is not lost
  pub never_lost : (stage : Stage) (t : Trial) → none_yet ≡ after_stage try stage (found t) → ⊥
  never_lost stage t e = let r = still_found try t (shifts_of stage) in let z : ◌≡◌ {A = ℕ} 0 1 = cc (e ∙ r.1) in omega arith

  -- ---- and what each leaves is small

  module _ (named : (x : Float) → (try x).shift ≡ x) where
    about-small : (a : ℕ) (centre : Float) (b : Best) → a ≤ farthest_centre → Within a centre → BestWithin farthest_coarse b → BestWithin farthest_coarse (after_stage try (coarse_stage centre) b)
    about-small a centre b l h k = stage_kept try named (a + 15) farthest_coarse (coarse_stage centre) b (omega arith) (omega arith) (omega arith) k (sub_within a 15 centre fifteen (omega arith) h (omega arith)) (omega arith)

    pub coarse-small : (centre : Float) → Within farthest_centre centre → BestWithin farthest_coarse (first_least try (coarse centre))
    coarse-small centre h = go (lt five (magnitude_of centre)) refl
      where
        first : BestWithin farthest_coarse (after_stage try (coarse_stage centre) none_yet)
        first = about-small farthest_centre centre none_yet (omega arith) h tt

        go : (v : Bool) → lt five (magnitude_of centre) ≡ v → BestWithin farthest_coarse (first_least try (coarse centre))
        go false e = subst (BestWithin farthest_coarse) (coarse-one centre e) first
        go true e = subst (BestWithin farthest_coarse) (coarse-two centre e) (about-small 0 nought (after_stage try (coarse_stage centre) none_yet) (omega arith) (omega arith) first)

    pub fine_small : (t : Trial) → Within farthest_coarse t.shift → BestWithin farthest_fine (after_stage try (fine_stage t.shift) (found t))
    fine_small t h =
        stage_kept try named (farthest_coarse + 1) farthest_fine (fine_stage t.shift) (found t) (omega arith) (omega arith) (omega arith) (weaken farthest_coarse farthest_fine t.shift (omega arith) h)
        (sub_within farthest_coarse 1 t.shift twentieth (omega arith) h (omega arith)) (omega arith)

    pub micro_small : (t : Trial) → Within farthest_fine t.shift → BestWithin farthest_shift (after_stage try (micro_stage t.shift) (found t))
    micro_small t h =
        stage_kept try named (farthest_fine + 1) farthest_shift (micro_stage t.shift) (found t) (omega arith) (omega arith) (omega arith) (weaken farthest_fine farthest_shift t.shift (omega arith) h)
        (sub_within farthest_fine 1 t.shift thousandth (omega arith) h (omega arith)) (omega arith)

    after_fine : (b : Best) → BestWithin farthest_fine b → BestWithin farthest_shift (stage_after try micro_stage b)
    unfolding first_best
    after_fine none_yet k = tt
    after_fine (found t) k = micro_small t k

    -- so is the shift after both further stages
    pub refined-small : (b : Best) → BestWithin farthest_coarse b → BestWithin farthest_shift (stage_after try micro_stage (stage_after try fine_stage b))
    unfolding first_best
    refined-small none_yet k = tt
    refined-small (found t) k = after_fine (stage_after try fine_stage (found t)) (fine_small t k)

    -- and so the one that is reported
    pub least_small : (centre : Float) → Within farthest_centre centre → BestWithin farthest_shift (first_least try (shifts try centre))
    least_small centre h =
        subst (BestWithin farthest_shift) (sym (least_by_stages try centre)) (refined-small (first_least try (coarse centre)) (coarse-small centre h))
