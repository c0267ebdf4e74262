-- The law of the first least slope, by that of the search for the first of the best, at any floor; and without a floor what document 01 says of the measured approach: 9 exactly where no sample
-- has a positive gap and a slope below zero, else the instant of the one sample that is the first of the least. No slope is under −infinity, so there every positive gap counts. Assumes nothing.
use mathlib.Core.Path.{◌≡◌, refl, ap, ◌∙◌, subst}
use mathlib.Core.Logic.{◌≢◌, ◌↔◌}
use mathlib.Core.Bool.{Bool, true, false, not, cond}
use mathlib.Core.List.{List}
use Prim.Native.Nat.{ℕ, ◌-◌, ◌≤◌, ◌<◌}
use native.Mathlib.Omega.{arith}
use lib.Dec.{T, T_not, not_T}
use lib.IntN.{ℤ, pos}
use lib.ListN.{length, get_or}
use lib.Ieee.{Float, nan, inf, fin, lt}
use lib.Ieee.Fits.{and_l, and_r, and_i}
use Rattle.common.specs.Numbers.{nought}
use Rattle.common.specs.Search.{FirstOfBest, Searched, kept, won}
use Rattle.float.proofs.Comparison.{at_least, lt_left, le_not_lt}
use Rattle.common.proofs.Search.{first_of_best}
use Rattle.float.proofs.Leasts.{least_first}
use Rattle.common.specs.Outcome.{Outcome, refused, answered}
use Rattle.samples.specs.declared.approach.LeastSlope.{LeastSlope}
use Rattle.samples.specs.Approach.{no_floor, gap_at, slope_at, sloped, counts, steeper, no_slope_yet, least_slope, approach_of, Falls, FirstFall, no_fall_refusal}
use Rattle.samples.proofs.Slopes.{rest_start}

-- at any floor: slope +0.0 where no sample that counts has a slope below zero, else the first of the least
pub first_slope : (floor : Float) (ts : List ℤ) (fs : List Float) → Searched (steeper floor ts) no_slope_yet (sloped ts fs) 1 (length ts - 1) (least_slope floor ts fs)
first_slope floor ts fs = subst (Searched (steeper floor ts) no_slope_yet (sloped ts fs) 1 (length ts - 1)) (rest_start floor ts fs) (first_of_best (steeper floor ts) (least_first (counts floor ts) (λ s. s.slope)) no_slope_yet (sloped ts fs) 1 (length ts - 1))

-- ---- the measured approach

-- nothing is under −infinity
none_under : (x : Float) → T (not (lt x no_floor))
unfolding lt
none_under nan = tt
none_under (inf true) = tt
none_under (inf false) = tt
none_under (fin s m e) = tt

module _ (ts : List ℤ) (fs : List Float) where
  -- without a floor a sample is steeper than another where its gap is positive and its slope below the other's
  steeper_by : (j : ℕ) (t : LeastSlope) → T (lt nought (gap_at ts j)) → T (lt (slope_at ts fs j) t.slope) → T (steeper no_floor ts (sloped ts fs j) t)
  steeper_by j t g h =
      and_i (counts no_floor ts (sloped ts fs j)) (lt (slope_at ts fs j) t.slope) (and_i (lt nought (gap_at ts j)) (not (lt (slope_at ts fs j) no_floor)) g (none_under (slope_at ts fs j))) h

  -- its slope is below the other's
  below_by : (j : ℕ) (t : LeastSlope) → T (steeper no_floor ts (sloped ts fs j) t) → T (lt (slope_at ts fs j) t.slope)
  below_by j t = and_r (counts no_floor ts (sloped ts fs j)) (lt (slope_at ts fs j) t.slope)

  falls-beats : (j : ℕ) → Falls ts fs j → T (steeper no_floor ts (sloped ts fs j) no_slope_yet)
  falls-beats j f = steeper_by j no_slope_yet f.positive f.falling

  beats-falls : (j : ℕ) → 1 ≤ j → j < length ts - 1 → T (steeper no_floor ts (sloped ts fs j) no_slope_yet) → Falls ts fs j
  beats-falls j l h b =
      record {
        after = l;
        before = omega arith;
        positive = and_l (lt nought (gap_at ts j)) (not (lt (slope_at ts fs j) no_floor)) (and_l (counts no_floor ts (sloped ts fs j)) (lt (slope_at ts fs j) nought) b);
        falling = below_by j no_slope_yet b;
      }

  -- the first of the best is the first of those that fall
  first-falls : (i : ℕ) → FirstOfBest (steeper no_floor ts) no_slope_yet (sloped ts fs) 1 (length ts - 1) i → FirstFall ts fs i
  first-falls i f =
      let here = beats-falls i f.from f.inside f.beats in
      record {
        falls = here;
        least = λ j g.
            at_least (slope_at ts fs i) (slope_at ts fs j) (lt_left (slope_at ts fs i) nought here.falling) (lt_left (slope_at ts fs j) nought g.falling)
            (not_T (lt (slope_at ts fs j) (slope_at ts fs i)) (λ u. T_not (steeper no_floor ts (sloped ts fs j) (sloped ts fs i)) (f.best j g.after (omega (arith, g.before))) (steeper_by j (sloped ts fs i) g.positive u)));
        first = λ j h g. below_by i (sloped ts fs j) (f.first j g.after h (falls-beats j g));
      }

  -- two samples are not both the first of the least
  pub one_fall : (i k : ℕ) → FirstFall ts fs i → FirstFall ts fs k → k ≡ i
  one_fall i k u v =
      let p : ¬ (i < k) = λ h. clash i k h u v in
      let q : ¬ (k < i) = λ h. clash k i h v u in
      omega arith
    where
      clash : (i k : ℕ) → i < k → FirstFall ts fs i → FirstFall ts fs k → ⊥
      clash i k h u v = T_not (lt (slope_at ts fs k) (slope_at ts fs i)) (le_not_lt (slope_at ts fs i) (slope_at ts fs k) (u.least k v.falls)) (v.first i h u.falls)

  -- the answer by the best
  abbrev answer_by : LeastSlope → Outcome ℤ
  answer_by s = cond (lt s.slope nought) (answered (get_or ts s.middle (pos 0))) (refused no_fall_refusal)

  if_kept : least_slope no_floor ts fs ≡ no_slope_yet → approach_of ts fs ≡ refused no_fall_refusal
  unfolding lt
  if_kept e = ap answer_by e

  if_won : (i : ℕ) → least_slope no_floor ts fs ≡ sloped ts fs i → T (lt (slope_at ts fs i) nought) → approach_of ts fs ≡ answered (get_or ts i (pos 0))
  if_won i e h = ap answer_by e ∙ go (lt (slope_at ts fs i) nought) h
    where
      go : (v : Bool) → T v → cond v (answered (get_or ts i (pos 0))) (refused no_fall_refusal) ≡ answered (get_or ts i (pos 0))
      go true h = refl
      go false h = absurd h

  -- "No slope below zero was found": 9 exactly where the frequency falls about no sample
  pub nine-exactly : (approach_of ts fs ≡ refused no_fall_refusal) ↔ ((j : ℕ) → Falls ts fs j → ⊥)
  nine-exactly = (forth (first_slope no_floor ts fs), back (first_slope no_floor ts fs))
    where
      forth : Searched (steeper no_floor ts) no_slope_yet (sloped ts fs) 1 (length ts - 1) (least_slope no_floor ts fs) → approach_of ts fs ≡ refused no_fall_refusal → (j : ℕ) → Falls ts fs j → ⊥
      forth (kept p none) e j g = T_not (steeper no_floor ts (sloped ts fs j) no_slope_yet) (none j g.after (omega (arith, g.before))) (falls-beats j g)
      forth (won i p f) e j g =
          let q = if_won i p (first-falls i f).falls.falling in
          let z : ◌≡◌ {A = ℕ} 0 1 = cc in
          omega arith

      back : Searched (steeper no_floor ts) no_slope_yet (sloped ts fs) 1 (length ts - 1) (least_slope no_floor ts fs) → ((j : ℕ) → Falls ts fs j → ⊥) → approach_of ts fs ≡ refused no_fall_refusal
      back (kept p none) no-fall = if_kept p
      back (won i p f) no-fall = absurd (no-fall i (first-falls i f).falls)

  -- "the first least below zero gives its middle sample's instant": otherwise one sample is the first of the least, and the answer is its instant
  pub first_approach : approach_of ts fs ≢ refused no_fall_refusal → (i : ℕ) × FirstFall ts fs i × (approach_of ts fs ≡ answered (get_or ts i (pos 0))) × ((k : ℕ) → FirstFall ts fs k → k ≡ i)
  first_approach ne = go (first_slope no_floor ts fs)
    where
      go : Searched (steeper no_floor ts) no_slope_yet (sloped ts fs) 1 (length ts - 1) (least_slope no_floor ts fs) → (i : ℕ) × FirstFall ts fs i × (approach_of ts fs ≡ answered (get_or ts i (pos 0))) × ((k : ℕ) → FirstFall ts fs k → k ≡ i)
      go (kept p none) = absurd (ne (if_kept p))
      go (won i p f) =
          let here = first-falls i f in
          (i, here, if_won i p here.falls.falling, λ k u. one_fall i k here u)
