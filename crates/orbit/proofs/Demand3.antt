-- Demand 3 as one theorem, `demand_3`, about the definitions `means` and `pass_outcome`, with its parts by name; and `two_calls`, what it says of two calls of the pass entry. The means by the laws
-- of their seconds, the outcome by the law of the first least over the list of the shifts, and all of it a function of the means. Assumes nothing.
use mathlib.Core.Path.{◌≡◌, refl, sym, ◌∙◌, ap, subst}
use mathlib.Core.Logic.{◌≢◌, ◌↔◌}
use mathlib.Core.Bool.{cond}
use mathlib.Core.List.{List, [], ◌∷◌, ◌++◌}
use Prim.Native.Nat.{ℕ, zero, suc, ◌/◌, ◌≤◌}
use native.Mathlib.Omega.{arith}
use lib.Dec.{ltb, ltb→lt, lt→ltb}
use lib.Ieee.Fits.{and_l, and_r, and_i}
use lib.IntN.{ℤ}
use lib.ListN.{length, get_or, drop, length-map}
use lib.Ieee.{Float, nan, lt}
use Rattle.chebyshev.specs.Inverse.{Matrix, singular_refusal}
use Rattle.common.specs.Lists.{those, how_many}
use Rattle.common.proofs.Those.{those-map}
use Rattle.common.specs.Outcome.{Outcome, refused, answered, mapped, unless_refused, area}
use Rattle.checks.proofs.Checked.{pass_areas, pass_tolerance, pass_never_ten}
use Rattle.samples.specs.Means.{Sample, recording, means, instants, frequencies, Alike}
use Rattle.samples.proofs.FirstSlope.{nine-exactly, first_approach}
use Rattle.samples.proofs.Seconds.{rising, held, listed, seconds_are, count-means, few-means, same-means}
use Rattle.samples.proofs.OwnSeconds.{own-seconds, means-rise}
use Rattle.float.proofs.Comparison.{le_not_lt}
use Rattle.common.specs.Numbers.{largest_finite}
use Rattle.orbit.specs.declared.fit.Report.{Report}
use Rattle.orbit.proofs.Models.{inversion_eight}
use Rattle.orbit.specs.Window.{window_seconds, window_start, inversion_of, model_or}
use Rattle.orbit.specs.declared.propagation.Motion.{Motion}
use Rattle.orbit.specs.Propagation.{motion_at}
use Rattle.orbit.specs.Fit.{trial, coarse, report_of_trial, fit_of, none_usable_refusal}
use Rattle.orbit.specs.Residuals.{Inputs, propagated_by, moved, lies_outside, outside_count, residual_in, residual_of, keep, residuals}
use Rattle.orbit.specs.Passes.{approach_or, middle_of, measured_of, pass_outcome, pass_refusal, pass}
use Rattle.orbit.specs.Demand3.{NoCoarse, tried, measured_for, basis_for, centre_for, shifts_for, tried_at, CentreIs, positioned, propagates, rmse_for, Usable, ShiftsAre, Fields, Choice, Demand3, Call, TwoCalls}
use Rattle.orbit.proofs.Middles.{fallback_where}
use Rattle.orbit.proofs.FirstRange.{first_minute, first-second}
use Rattle.orbit.proofs.FirstLeast.{at_least_the_winner's, refused-exactly, Chosen, exactly-one}
use Rattle.orbit.proofs.ListOfShifts.{coarse-steps, fine_steps, micro_steps, coarse-length, coarse-alone, listing, listing_length}

-- ---- the proofs

-- as many residuals are left as means can be propagated
left_many : (i : Inputs) (x : Float) (M : List Sample) → length (residuals (residual_of i x) M) ≡ how_many (propagates i x) M
unfolding residuals those
left_many i x [] = refl
left_many i x (m ∷ ms) = go (propagated_by i (moved m.instant x)) (left_many i x ms)
  where
    go : (o : Outcome Motion) → length (residuals (residual_of i x) ms) ≡ how_many (propagates i x) ms → length (keep (residual_in i.settings m.frequency o) (residuals (residual_of i x) ms)) ≡ length (cond (positioned o) (m ∷ those (propagates i x) ms) (those (propagates i x) ms))
    go (refused n) e = e
    go (answered w) e = ap suc e

-- as many of the means' instants lie outside, moved, as means
outside_many : (i : Inputs) (x : Float) (M : List Sample) → outside_count i.instants (instants M) x ≡ how_many (λ m. lies_outside i.instants x m.instant) M
outside_many i x M = let lies = lies_outside i.instants x in ap length (those-map lies (λ m. m.instant) M) ∙ length-map (those (λ (m : Sample). lies m.instant) M) (λ (m : Sample). m.instant)

-- propagation is refused by 8 alone
refused_by_8 : (i : Inputs) (t : ℤ) (n : ℕ) → propagated_by i t ≡ refused n → n ≡ singular_refusal
refused_by_8 i t n e = go (inversion_of i.settings.tolerance (window_seconds i.instants (window_start i.instants t))) refl e
  where
    w : List Float
    w = window_seconds i.instants (window_start i.instants t)

    go : (v : Outcome Matrix) → inversion_of i.settings.tolerance w ≡ v → mapped (λ m. motion_at m t) (model_or v w i.positions (window_start i.instants t)) ≡ refused n → n ≡ singular_refusal
    go (refused k) p e = let z : k ≡ n = cc in sym z ∙ inversion_eight i.settings.tolerance w k p
    go (answered v) p e = let z : ◌≡◌ {A = ℕ} 0 1 = cc in absurd (omega arith)

-- the centre, by the laws of the two searches
centre_is : (i : Inputs) (S : List Sample) → CentreIs i S
centre_is i S = record {
  difference = refl;
  first_fall = λ j f. let r = first_approach ts fs (λ e. (nine-exactly ts fs).0 e j f) in (r.0, r.1, ap (λ (o : Outcome ℤ). (approach_or (middle_of ts) o).instant.0) r.2, r.3);
  else_middle = λ none. ap (λ (o : Outcome ℤ). (approach_or (middle_of ts) o).instant.0) ((nine-exactly ts fs).1 none);
  by_minutes_lem = first_minute i.settings.tolerance i.instants i.positions i.settings.observer (measured_for S);
  by_seconds_lem = first-second i.settings.tolerance i.instants i.positions i.settings.observer (measured_for S);
  predicted = refl;
}
  where
    ts : List ℤ
    ts = instants (means S)

    fs : List Float
    fs = frequencies (means S)

-- usable, in the document's words
usable_is : (i : Inputs) (S : List Sample) → Usable i S
unfolding trial
usable_is i S = record {
  exactly = λ x.
      let n = length (means S) / 2 in
      let m = length (residuals (residual_of i x) (means S)) in
      let e = left_many i x (means S) in
      let small = lt (rmse_for i S x) largest_finite in (
        λ u. (omega (arith, ltb→lt n m (and_l (ltb n m) small u)), and_r (ltb n m) small u),
        λ u. and_i (ltb n m) small (lt→ltb n m (omega (arith, u.0))) u.1,
      );
  rmse_is = λ x. refl;
  else_8 = λ x m. refused_by_8 i (moved m.instant x);
}

-- the list, stage by stage
shifts_are : (i : Inputs) (S : List Sample) → ShiftsAre i S
unfolding coarse trial
shifts_are i S = record {
  about = coarse-steps;
  coarse_are = refl;
  coarse-many = coarse-length (centre_for i S);
  fine_are = fine_steps;
  micro_are = micro_steps;
  none_further = coarse-alone (tried i S) (centre_for i S);
  stages = listing (tried i S) (λ x. refl) (centre_for i S);
  many = listing_length (tried i S) (λ x. refl) (centre_for i S);
}

module _ (i : Inputs) (S : List Sample) where
  -- the winner of the list of the shifts is the place that demand 3 asks for, and the other way round
  choice_of : (k : ℕ) → Chosen (tried i S) (basis_for i S) (centre_for i S) k → Choice i S k
  choice_of k c = record {
    inside = c.wins.inside;
    can_be_used = c.wins.can_be_used;
    reported = c.reported;
    least = λ j h ne u. at_least_the_winner's (tried_at i S) (length (shifts_for i S)) k j c.wins h ne u;
    first = c.wins.first;
  }

  chosen_of : (k : ℕ) → Choice i S k → Chosen (tried i S) (basis_for i S) (centre_for i S) k
  chosen_of k c = record {
    wins = record {
      inside = c.inside;
      can_be_used = c.can_be_used;
      least = λ j h ne u. le_not_lt (tried_at i S k).rmse (tried_at i S j).rmse (c.least j h ne u);
      first = c.first;
    };
    reported = c.reported;
  }

  -- so there is exactly one
  one_choice : pass_outcome i S ≢ refused none_usable_refusal → (k : ℕ) × Choice i S k × ((j : ℕ) → Choice i S j → j ≡ k)
  one_choice ne = let r = exactly-one (tried i S) (basis_for i S) (centre_for i S) ne in (r.0, choice_of r.0 r.1, λ j c. r.2 j (chosen_of j c))

  -- the fields of the report of a shift
  fields_of : (x : Float) → Fields i S x (report_of_trial (basis_for i S) (tried i S x))
  unfolding trial
  fields_of x = record {
    clock_offset = refl;
    frequency_offset = refl;
    rmse_is = refl;
    count_is = refl;
    approach_is = refl;
    fallback_exactly = fallback_where (instants (means S)) (frequencies (means S));
    outside_is = outside_many i x (means S);
  }

  fields_are : (k : ℕ) → Choice i S k → (r : Report) → pass_outcome i S ≡ answered r → Fields i S (get_or (shifts_for i S) k nan) r
  fields_are k c r e =
      let same : report_of_trial (basis_for i S) (tried_at i S k) ≡ r = cc c.reported in
      subst (Fields i S (get_or (shifts_for i S) k nan)) same (fields_of (get_or (shifts_for i S) k nan))

-- demand 3
pub demand_3 : (i : Inputs) (S : List Sample) → Demand3 i S
unfolding means
demand_3 i S = record {
  listed = record { rises = rising S; only_held = λ s. held s S; all_held = λ s. listed s S; no_other = seconds_are S };
  own = record { in_order = refl; own-second = own-seconds S; rise = means-rise S };
  count = count-means S;
  centre = centre_is i S;
  usable = usable_is i S;
  shifts = shifts_are i S;
  refusal = refused-exactly (tried i S) (basis_for i S) (centre_for i S);
  choice = one_choice i S;
  reports = fields_are i S;
  alone = λ S' a. (same-means S S' a, ap (λ (M : List Sample). fit_of i M (measured_of M)) (same-means S S' a));
}

-- ---- what the calls of the pass entry give

-- what an area holds where no check failed: n values at its front
front : {A : Type 0} (k n : ℕ) (values old : List A) → k ≡ 0 → length values ≡ n → area k values old ≡ values ++ drop n old
front zero n values old z e = ap (λ (m : ℕ). values ++ drop m old) e
front (suc k) n values old z e = absurd (omega arith)

-- no recording is longer than its slice of instants
few-recorded : (ts : List ℤ) (fs : List Float) → length (recording ts fs) ≤ length ts
unfolding recording
few-recorded [] fs = omega arith
few-recorded (t ∷ ts) [] = omega arith
few-recorded (t ∷ ts) (f ∷ fs) = let r = few-recorded ts fs in omega arith

module _ (i : Inputs) (ts : List ℤ) (fs : List Float) (a : List ℤ) (b : List Float) where
  -- a call that passes checks 1 to 7 and 16 answers its recording's outcome, with its means at the front of the areas
  pub one_call : pass_refusal i ts fs a b ≡ 0 → Call i ts fs a b (means (recording ts fs))
  one_call p =
      let M = means (recording ts fs) in
      let few = few-means (recording ts fs) in
      let all = few-recorded ts fs in
      let held = pass_areas i.instants i.positions ts fs i.settings a b p in
      record {
        tolerated = pass_tolerance i.instants i.positions ts fs i.settings a b p;
        outcome_is = ap (λ (k : ℕ). unless_refused k (pass_outcome i (recording ts fs))) p;
        fits = (omega (arith, held.0), omega (arith, held.1));
        instants_are = front (pass_refusal i ts fs a b) (length M) (instants M) a p (length-map M (λ (x : Sample). x.instant));
        frequencies_are = front (pass_refusal i ts fs a b) (length M) (frequencies M) b p (length-map M (λ (x : Sample). x.frequency));
      }

  -- a call answers 10 exactly when it passes checks 1 to 7 and 16 and no coarse shift is usable
  pub ten_exactly : (pass i ts fs a b ≡ refused none_usable_refusal) ↔ ((pass_refusal i ts fs a b ≡ 0) × NoCoarse (tried i (recording ts fs)) (centre_for i (recording ts fs)))
  ten_exactly = (
    λ e. let r = go (pass_refusal i ts fs a b) (pass_never_ten i.instants i.positions ts fs i.settings a b) e in (r.0, (demand_3 i (recording ts fs)).refusal.0 r.1),
    λ h. (one_call h.0).outcome_is ∙ (demand_3 i (recording ts fs)).refusal.1 h.1,
  )
    where
      go : (k : ℕ) → (k ≡ 10 → ⊥) → unless_refused k (pass_outcome i (recording ts fs)) ≡ refused none_usable_refusal → (k ≡ 0) × (pass_outcome i (recording ts fs) ≡ refused none_usable_refusal)
      go zero never e = (refl, e)
      go (suc k) never e = absurd (never (cc))

-- they give the same outcome and the same means, at the front of the areas of each
pub two_calls : (i : Inputs) (ts : List ℤ) (fs : List Float) (a : List ℤ) (b : List Float) (ts' : List ℤ) (fs' : List Float) (a' : List ℤ) (b' : List Float)
    → pass_refusal i ts fs a b ≡ 0
    → pass_refusal i ts' fs' a' b' ≡ 0
    → Alike (recording ts fs) (recording ts' fs')
    → TwoCalls i ts fs a b ts' fs' a' b'
two_calls i ts fs a b ts' fs' a' b' p p' alike =
    let one = one_call i ts fs a b p in
    let other = one_call i ts' fs' a' b' p' in
    let same = (demand_3 i (recording ts fs)).alone (recording ts' fs') alike in
    record { same_report = one.outcome_is ∙ same.1 ∙ sym other.outcome_is; one = one; other = subst (Call i ts' fs' a' b') (sym same.0) other }
