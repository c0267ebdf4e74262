-- The first least of a list of shifts, by the law of the search for the first of the best: the place that wins is usable, no other usable place is below it and each usable place before it is
-- above it; there is one such place at most. So the fit answers 10 exactly when no coarse shift is usable, and else reports that one place. Assumes nothing.
use mathlib.Core.Path.{◌≡◌, refl, sym, ◌∙◌, ap, subst}
use mathlib.Core.Logic.{◌≢◌, ◌↔◌}
use mathlib.Core.Bool.{not}
use mathlib.Core.List.{List, ◌++◌, map, map-append}
use Prim.Native.Nat.{ℕ, ◌<◌}
use native.Mathlib.Decide.{ℕ_discrete}
use native.Mathlib.Omega.{arith}
use lib.Dec.{T, T_not, not_T}
use lib.ListN.{length}
use lib.Ieee.{Float, nan, lt, le}
use lib.Ieee.Fits.{and_l, and_r, and_i}
use Rattle.common.specs.Search.{first_best, Comparison, FirstOfBest, Searched, kept, won}
use Rattle.float.proofs.Comparison.{number, at_least, lt_left}
use Rattle.common.proofs.Search.{one-first, found_among, first_of_mapped, search_append}
use Rattle.float.proofs.Leasts.{and_not, least_first}
use Rattle.common.specs.Outcome.{refused, answered}
use Rattle.common.specs.Numbers.{largest_finite}
use Rattle.orbit.specs.Demand3.{trial_at, Wins, NoCoarse}
use Rattle.orbit.specs.Fit.{Trial, usable, Best, none_yet, found, rmse_of, enough_of, smaller, first_least, coarse, further, coarse_fine, shifts, Basis, report_of_trial, report_of_best, fit_by_trials, none_usable_refusal}
use Rattle.orbit.specs.declared.stages.Stage.{Stage}

-- a smaller RMSE compares as the search asks
pub smaller_compares : Comparison smaller
smaller_compares = least_first enough_of rmse_of

-- ---- the winner

-- the place that wins is the first of the best, and the other way round
module _ (at : ℕ → Trial) (n i : ℕ) where
  wins_of : FirstOfBest smaller none_yet (λ j. found (at j)) 0 n i → Wins at n i
  wins_of f = record {
    inside = f.inside;
    can_be_used = f.beats;
    least = λ j h ne u. and_not (at j).enough (lt (at j).rmse (at i).rmse) (f.best j (omega arith) h) (and_l (at j).enough (lt (at j).rmse largest_finite) u);
    first = λ j h u. and_r (at i).enough (lt (at i).rmse (at j).rmse) (f.first j (omega arith) h u);
  }

  first_of : Wins at n i → FirstOfBest smaller none_yet (λ j. found (at j)) 0 n i
  first_of w = record {
    from = omega arith;
    inside = w.inside;
    beats = w.can_be_used;
    best = λ j l h. elim (ℕ_discrete j i) [
      | yes e ↦ subst (λ (k : ℕ). T (not (smaller (found (at k)) (found (at i))))) (sym e) (smaller_compares.never_itself (found (at i)))
      | no ne ↦ not_T (smaller (found (at j)) (found (at i))) (λ u.
          T_not (lt (at j).rmse (at i).rmse) (w.least j h ne (smaller_compares.through (found (at j)) (found (at i)) none_yet u w.can_be_used)) (and_r (at j).enough (lt (at j).rmse (at i).rmse) u))
    ];
    first = λ j l h u. and_i (at i).enough (lt (at i).rmse (at j).rmse) (and_l (at i).enough (lt (at i).rmse largest_finite) w.can_be_used) (w.first j h u);
  }

-- two places do not both win
pub one_winner : (at : ℕ → Trial) (n i k : ℕ) → Wins at n i → Wins at n k → k ≡ i
one_winner at n i k u v = one-first smaller none_yet (λ j. found (at j)) 0 n i k (first_of at n i u) (first_of at n k v)

-- every other usable place has at least the winner's RMSE
pub at_least_the_winner's : (at : ℕ → Trial) (n i j : ℕ) → Wins at n i → j < n → j ≢ i → T (usable (at j)) → T (le (at i).rmse (at j).rmse)
at_least_the_winner's at n i j w h ne u = at_least (at i).rmse (at j).rmse (number_of i w.can_be_used) (number_of j u) (w.least j h ne u)
  where
    number_of : (k : ℕ) → T (usable (at k)) → T (number (at k).rmse)
    number_of k v = lt_left (at k).rmse largest_finite (and_r (at k).enough (lt (at k).rmse largest_finite) v)

-- ---- the search

-- what the search knows after the places below n: none of them is usable, or the best so far stands at the place that wins
abbrev pub After : (ℕ → Trial) → ℕ → Best → Type 0
After at n none_yet = (j : ℕ) → j < n → T (not (usable (at j)))
After at n (found t) = (i : ℕ) × (t ≡ at i) × Wins at n i

-- the law of the first least: `none_yet` exactly where no place of the list is usable, and else the trial at the place that wins
pub first_least_lem : (try : Float → Trial) (L : List Float) → After (trial_at try L) (length L) (first_least try L)
first_least_lem try L = go (first_of_mapped smaller smaller_compares none_yet (λ x. found (try x)) nan L)
  where
    go : Searched smaller none_yet (λ j. found (trial_at try L j)) 0 (length L) (first_least try L) → After (trial_at try L) (length L) (first_least try L)
    go (kept e none) = subst (After (trial_at try L) (length L)) (sym e) (λ j h. none j (omega arith) h)
    go (won i e f) = subst (After (trial_at try L) (length L)) (sym e) (i, refl, wins_of (trial_at try L) (length L) i f)

-- nothing is found where no place is usable
pub none_found : (try : Float → Trial) (L : List Float) → ((j : ℕ) → j < length L → T (not (usable (trial_at try L j)))) → first_least try L ≡ none_yet
none_found try L none = go (first_least try L) refl (first_least_lem try L)
  where
    go : (b : Best) → first_least try L ≡ b → After (trial_at try L) (length L) b → first_least try L ≡ none_yet
    go none_yet p a = p
    go (found t) p a = absurd (T_not (usable (trial_at try L a.0)) (none a.0 a.2.inside) a.2.can_be_used)

-- ---- one stage after another

-- the first least of the best so far and a list of shifts
abbrev pub least_from : (Float → Trial) → Best → List Float → Best
least_from try b L = first_best smaller b (map (λ x. found (try x)) L)

-- the first least of two stages: the second starts from the best of the first
pub next_stage : (try : Float → Trial) (s t : List Float) → first_least try (s ++ t) ≡ least_from try (first_least try s) t
next_stage try s t = ap (first_best smaller none_yet) (map-append (λ (x : Float). found (try x)) s t) ∙ search_append smaller none_yet (map (λ (x : Float). found (try x)) s) (map (λ (x : Float). found (try x)) t)

-- what was found may be beaten, and is never lost
pub still_found : (try : Float → Trial) (t : Trial) (L : List Float) → (u : Trial) × (least_from try (found t) L ≡ found u)
still_found try t L =
    found_among smaller (found t) (λ j. found (trial_at try L j)) 0 (length L) (λ b. (u : Trial) × (b ≡ found u)) (first_of_mapped smaller smaller_compares (found t) (λ x. found (try x)) nan L) (t, refl)
    (λ j l h. (trial_at try L j, refl))

module _ (try : Float → Trial) (basis : Basis) (centre : Float) where
  found-later : (s t : List Float) (x : Trial) → first_least try s ≡ found x → (u : Trial) × (first_least try (s ++ t) ≡ found u)
  found-later s t x e = let r = still_found try x t in (r.0, next_stage try s t ∙ ap (λ (b : Best). least_from try b t) e ∙ r.1)

  none_later : (f : Float → Stage) (s : List Float) → first_least try s ≡ none_yet → first_least try (s ++ further f (first_least try s)) ≡ none_yet
  unfolding first_best
  none_later f s e = next_stage try s (further f (first_least try s)) ∙ ap (λ (b : Best). least_from try b (further f b)) e

  -- a usable coarse shift makes a report
  in_the_end : (x : Trial) → first_least try (coarse centre) ≡ found x → (u : Trial) × (first_least try (shifts try centre) ≡ found u)
  unfolding shifts coarse_fine
  in_the_end x e =
      let r = found-later (coarse centre) _ x e in
      found-later (coarse_fine try centre) _ r.0 r.1

  -- and without one nothing is found
  none_in_the_end : first_least try (coarse centre) ≡ none_yet → first_least try (shifts try centre) ≡ none_yet
  unfolding shifts coarse_fine
  none_in_the_end e = none_later _ (coarse_fine try centre) (none_later _ (coarse centre) e)

  -- ---- the outcome

  -- refusal 10 exactly when no coarse shift is usable
  pub refused-exactly : (fit_by_trials try basis centre ≡ refused none_usable_refusal) ↔ NoCoarse try centre
  unfolding fit_by_trials
  refused-exactly = (λ e. forth (first_least try (coarse centre)) refl e (first_least_lem try (coarse centre)), λ none. ap (report_of_best basis) (none_in_the_end (none_found try (coarse centre) none)))
    where
      answers : (u : Trial) → first_least try (shifts try centre) ≡ found u → fit_by_trials try basis centre ≡ refused none_usable_refusal → ⊥
      answers u p q = let z : ◌≡◌ {A = ℕ} 0 1 = cc (ap (report_of_best basis) p) in omega arith

      forth : (b : Best) → first_least try (coarse centre) ≡ b → fit_by_trials try basis centre ≡ refused none_usable_refusal → After (trial_at try (coarse centre)) (length (coarse centre)) b → NoCoarse try centre
      forth none_yet p e a = a
      forth (found x) p e a = let r = in_the_end x p in absurd (answers r.0 r.1 e)

  -- the place i of the list of the shifts wins, and the report is that of its shift
  pub record Chosen (i : ℕ) : Type 0 where
    pub wins : Wins (trial_at try (shifts try centre)) (length (shifts try centre)) i
    pub reported : fit_by_trials try basis centre ≡ answered (report_of_trial basis (trial_at try (shifts try centre) i))

  -- otherwise there is exactly one such place
  pub exactly-one : fit_by_trials try basis centre ≢ refused none_usable_refusal → (i : ℕ) × Chosen i × ((k : ℕ) → Chosen k → k ≡ i)
  unfolding fit_by_trials
  exactly-one ne = go (first_least try (shifts try centre)) refl (first_least_lem try (shifts try centre))
    where
      go : (b : Best) → first_least try (shifts try centre) ≡ b → After (trial_at try (shifts try centre)) (length (shifts try centre)) b → (i : ℕ) × Chosen i × ((k : ℕ) → Chosen k → k ≡ i)
      go none_yet p a = absurd (ne (ap (report_of_best basis) p))
      go (found t) p a = (
        a.0,
        record { wins = a.2; reported = ap (report_of_best basis) p ∙ ap (λ (x : Trial). answered (report_of_trial basis x)) a.1 },
        λ k c. one_winner (trial_at try (shifts try centre)) (length (shifts try centre)) a.0 k a.2 c.wins,
      )
