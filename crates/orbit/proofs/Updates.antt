-- A stage as the code runs it, one candidate after the other; and the shift that is kept is the best's before or one of those tried. Assumes nothing.
use mathlib.Core.Path.{◌≡◌, refl, sym, ap, ◌∙◌, subst}
use mathlib.Core.List.{List, ◌∷◌, map}
use Prim.Native.Nat.{ℕ, zero, suc, ◌+◌, ◌≤◌}
use native.Mathlib.Omega.{arith}
use lib.ListN.{length, get_or}
use lib.Ieee.{Float, nan}
use Rattle.float.specs.Bounds.{Within}
use Rattle.common.specs.Lists.{list_of}
use Rattle.common.proofs.Filled.{length-list_of, get_or-list_of}
use Rattle.common.proofs.Search.{found_among, first_of_mapped}
use Rattle.orbit.specs.Bounds.{most_steps, farthest_start}
use Rattle.orbit.specs.Fit.{Trial, Best, none_yet, found, smaller, shift_at, shifts_of}
use Rattle.orbit.specs.Fitting.{after_stage}
use Rattle.orbit.specs.declared.stages.Stage.{Stage}
use Rattle.orbit.proofs.FirstLeast.{smaller_compares}
use Rattle.orbit.proofs.Shifts.{weaken, stage_within}

map-list_of : {A B : Type 0} (f : A → B) (g : ℕ → A) (n j : ℕ) → map f (list_of g n j) ≡ list_of (λ k. f (g k)) n j
unfolding list_of
map-list_of f g zero j = refl
map-list_of {B} f g (suc n) j = ap {B = List B} (λ l. f (g j) ∷ l) (map-list_of f g n (j + 1))

-- the trial at a step of a stage
abbrev pub at_step : (Float → Trial) → Stage → ℕ → Best
at_step try stage k = found (try (shift_at stage k))

-- the trials of a stage by its steps
pub by_steps : (try : Float → Trial) (stage : Stage) → map (λ x. found (try x)) (shifts_of stage) ≡ list_of (at_step try stage) stage.steps 0
unfolding shifts_of
by_steps try stage = map-list_of (λ (x : Float). found (try x)) (shift_at stage) stage.steps 0

-- ---- what is kept is small

-- the shift of the best, if there is one
abbrev pub BestWithin : ℕ → Best → Type 0
BestWithin n none_yet = Unit {0}
BestWithin n (found t) = Within n t.shift

-- after a stage that starts within a, whose shifts are then within a + most_steps
pub stage_kept : (try : Float → Trial) → ((x : Float) → (try x).shift ≡ x) → (a n : ℕ) (stage : Stage) (best : Best) → a ≤ farthest_start → stage.steps ≤ most_steps → a + most_steps ≤ n
    → BestWithin n best → Within a stage.start.0 → Within 1 stage.increment.0 → BestWithin n (after_stage try stage best)
unfolding shifts_of
stage_kept try named a n stage best small few fit h k l =
    let L = shifts_of stage in
    let many : length L ≡ stage.steps = length-list_of (shift_at stage) stage.steps 0 in
    found_among smaller best (λ j. found (try (get_or L j nan))) 0 (length L) (BestWithin n) (first_of_mapped smaller smaller_compares best (λ x. found (try x)) nan L) h
    (λ j m u.
    let at : get_or L j nan ≡ shift_at stage j = get_or-list_of (shift_at stage) stage.steps 0 j nan (omega arith) ∙ ap (shift_at stage) (omega arith) in
    subst (Within n) (sym (named (get_or L j nan) ∙ at)) (weaken (a + most_steps) n (shift_at stage j) fit (stage_within a stage j small (omega arith) k l)))
