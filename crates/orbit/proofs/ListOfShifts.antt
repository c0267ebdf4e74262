-- The list of the shifts, stage by stage: how many shifts a stage has and which, and that searching the whole list is searching the stages one after the other, each from the best of those
-- before. By induction on the lists. Assumes nothing.
use mathlib.Core.Path.{◌≡◌, refl, sym, ◌∙◌, ap, subst}
use mathlib.Core.Logic.{◌≢◌}
use mathlib.Core.Bool.{Bool, true, false, cond}
use mathlib.Core.List.{List, [], ◌++◌, append-nil}
use Prim.Native.Nat.{ℕ, ◌+◌, ◌<◌}
use native.Mathlib.Omega.{arith}
use lib.IntN.{pos}
use lib.ListN.{length, get_or, length-append}
use lib.Ieee.{Float, nan, fin, lt}
use Rattle.float.specs.Signs.{magnitude_of}
use Rattle.common.proofs.Filled.{length-list_of, get_or-list_of}
use Rattle.common.specs.Rounded.{◌⊖◌}
use Rattle.common.specs.Numbers.{nought, five, fifteen, tenth, twentieth, thousandth, hundred_thousandth}
use Rattle.orbit.specs.Fit.{Trial, Best, none_yet, found, first_least, shift_at, shifts_of, coarse_stage, fine_stage, micro_stage, coarse, further, coarse_fine, shifts}
use Rattle.orbit.specs.Demand3.{trial_at, Wins, NoCoarse, Steps, Listing}
use Rattle.orbit.proofs.FirstLeast.{After, first_least_lem, none_found, least_from, next_stage, still_found}
use Rattle.orbit.specs.declared.stages.Stage.{Stage}

-- ---- a stage

-- as the definition lists them
steps_of : (stage : Stage) → Steps stage.steps stage.start.0 stage.increment.0 (shifts_of stage)
unfolding shifts_of
steps_of stage = record { many = length-list_of (shift_at stage) stage.steps 0; step = λ j h. get_or-list_of (shift_at stage) stage.steps 0 j nan h ∙ ap (shift_at stage) (omega arith) }

-- centre − 15.0 + step × 0.1, steps 0 to 300
pub coarse-steps : (centre : Float) → Steps 301 (centre ⊖ fifteen) tenth (shifts_of (coarse_stage centre))
coarse-steps centre = steps_of (coarse_stage centre)

-- first least so far − 0.05 + step × 0.001, steps 0 to 100
pub fine_steps : (best : Float) → Steps 101 (best ⊖ twentieth) thousandth (shifts_of (fine_stage best))
fine_steps best = steps_of (fine_stage best)

-- first least so far − 0.001 + step × 0.00001, steps 0 to 200
pub micro_steps : (best : Float) → Steps 201 (best ⊖ thousandth) hundred_thousandth (shifts_of (micro_stage best))
micro_steps best = steps_of (micro_stage best)

-- 301 coarse shifts where the centre's magnitude is not over 5, and 602 where it is
pub coarse-length : (centre : Float) → length (coarse centre) ≡ cond (lt five (magnitude_of centre)) 602 301
unfolding coarse
coarse-length centre = go (lt five (magnitude_of centre))
  where
    go : (v : Bool) → length (shifts_of (coarse_stage centre) ++ cond v (shifts_of (coarse_stage nought)) []) ≡ cond v 602 301
    go true = length-append (shifts_of (coarse_stage centre)) (shifts_of (coarse_stage nought)) ∙ omega (arith, (coarse-steps centre).many, (coarse-steps nought).many)
    go false = length-append (shifts_of (coarse_stage centre)) [] ∙ omega (arith, (coarse-steps centre).many)

-- there is always a coarse shift
pub some-coarse : (centre : Float) → 0 < length (coarse centre)
some-coarse centre = go (lt five (magnitude_of centre)) (coarse-length centre)
  where
    go : (v : Bool) → length (coarse centre) ≡ cond v 602 301 → 0 < length (coarse centre)
    go true e = omega arith
    go false e = omega arith

-- "Centre 5 → 301 coarse candidates"
pub centre-five : length (coarse five) ≡ 301
unfolding lt magnitude_of
centre-five = coarse-length five

-- "6 → 602"
pub centre_six : length (coarse (fin false 3 (pos 1))) ≡ 602
unfolding lt magnitude_of
centre_six = coarse-length (fin false 3 (pos 1))

-- ---- the stages one after the other

-- a further stage, searched from the best of those before
abbrev pub stage_after : (Float → Trial) → (Float → Stage) → Best → Best
stage_after try f b = least_from try b (further f b)

-- the search of the whole list is the three stages run one after the other, each from the best of those before
pub least_by_stages : (try : Float → Trial) (centre : Float) → first_least try (shifts try centre) ≡ stage_after try micro_stage (stage_after try fine_stage (first_least try (coarse centre)))
unfolding shifts coarse_fine
least_by_stages try centre =
    let e : first_least try (coarse_fine try centre) ≡ stage_after try fine_stage (first_least try (coarse centre)) = next_stage try (coarse centre) (further fine_stage (first_least try (coarse centre))) in
    next_stage try (coarse_fine try centre) (further micro_stage (first_least try (coarse_fine try centre))) ∙ ap (stage_after try micro_stage) e

-- ---- the list where a coarse shift is usable

-- "Without a usable coarse shift there are no fine or micro ones"
pub coarse-alone : (try : Float → Trial) (centre : Float) → NoCoarse try centre → shifts try centre ≡ coarse centre
unfolding shifts coarse_fine
coarse-alone try centre none =
    let e = none_found try (coarse centre) none in
    let l = stays _ (coarse centre) e in
    stays _ (coarse_fine try centre) (ap (first_least try) l ∙ e) ∙ l
  where
    stays : (f : Float → Stage) (L : List Float) → first_least try L ≡ none_yet → L ++ further f (first_least try L) ≡ L
    stays f L e = ap (λ (b : Best). L ++ further f b) e ∙ append-nil L

module _ (try : Float → Trial) (named : (x : Float) → (try x).shift ≡ x) where
  -- a stage from the first least of L is that from the shift at the place that wins
  after : (f : Float → Stage) (L : List Float) (b : Best) → first_least try L ≡ b → After (trial_at try L) (length L) b → b ≢ none_yet → (i : ℕ) × Wins (trial_at try L) (length L) i × (further f (first_least try L) ≡ shifts_of (f (get_or L i nan)))
  after f L none_yet e a n = absurd (n refl)
  after f L (found t) e a n = (a.0, a.2, ap (further f) e ∙ ap (λ (x : Float). shifts_of (f x)) (ap (λ (x : Trial). x.shift) a.1 ∙ named (get_or L a.0 nan)))

  -- the list of the shifts: coarse, then fine about the first least of the coarse, then micro about the first least so far
  pub listing : (centre : Float) → (NoCoarse try centre → ⊥) → (i : ℕ) × (k : ℕ) × Listing try centre i k
  unfolding shifts coarse_fine
  listing centre h =
      let one = after fine_stage (coarse centre) (first_least try (coarse centre)) refl (first_least_lem try (coarse centre)) some in
      let two = after micro_stage (coarse_fine try centre) (first_least try (coarse_fine try centre)) refl (first_least_lem try (coarse_fine try centre)) then in
      (one.0, two.0, record { of_coarse = one.1; then_fine = ap (λ (l : List Float). coarse centre ++ l) one.2; of_both = two.1; then_micro = ap (λ (l : List Float). coarse_fine try centre ++ l) two.2 })
    where
      some : first_least try (coarse centre) ≢ none_yet
      some e = h (subst (After (trial_at try (coarse centre)) (length (coarse centre))) e (first_least_lem try (coarse centre)))

      kept : (b : Best) → b ≢ none_yet → (L : List Float) → least_from try b L ≢ none_yet
      kept none_yet n L e = n refl
      kept (found t) n L e = let r = still_found try t L in let z : ◌≡◌ {A = ℕ} 0 1 = cc r.1 in omega arith

      then : first_least try (coarse_fine try centre) ≢ none_yet
      then e = kept (first_least try (coarse centre)) some (further fine_stage (first_least try (coarse centre))) (sym (next_stage try (coarse centre) (further fine_stage (first_least try (coarse centre)))) ∙ e)

  -- 101 fine and 201 micro shifts after the coarse ones
  pub listing_length : (centre : Float) → (NoCoarse try centre → ⊥) → length (shifts try centre) ≡ length (coarse centre) + 302
  listing_length centre h =
      let r = listing centre h in
      let l = r.2 in
      let coarsest = get_or (coarse centre) r.0 nan in
      let finest = get_or (coarse_fine try centre) r.1 nan in
      let f : length (coarse_fine try centre) ≡ length (coarse centre) + length (shifts_of (fine_stage coarsest)) = ap length l.then_fine ∙ length-append (coarse centre) (shifts_of (fine_stage coarsest)) in
      let m : length (shifts try centre) ≡ length (coarse_fine try centre) + length (shifts_of (micro_stage finest)) = ap length l.then_micro ∙ length-append (coarse_fine try centre) (shifts_of (micro_stage finest)) in
      omega (arith, (fine_steps coarsest).many, (micro_steps finest).many)
