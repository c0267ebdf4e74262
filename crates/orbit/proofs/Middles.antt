-- The measured approach of samples, or else their middle, is one of their instants, and the fallback exactly where the frequency falls about none of them; the means of a recording are samples that pass their checks. Assumes nothing.
use mathlib.Core.Path.{◌≡◌, refl, sym, ap, ap₂, ◌∙◌, subst}
use mathlib.Core.Logic.{◌↔◌}
use mathlib.Core.Bool.{Bool, true, false, cond}
use mathlib.Core.List.{List, [], ◌∷◌}
use Prim.Native.Nat.{ℕ, ◌≤◌}
use native.Mathlib.Omega.{arith}
use lib.Dec.{T}
use lib.IntN.{ℤ, pos, nat_abs}
use lib.ListN.{length, get_or, take, drop, length-map}
use lib.Seq.{take-append_seam}
use lib.Ieee.{Float, lt}
use Rattle.common.specs.Outcome.{Outcome, refused, answered, written}
use Rattle.samples.specs.Means.{Sample, recording, means, instants, frequencies}
use Rattle.samples.specs.Approach.{no_floor, least_slope, approach_of, Falls, no_fall_refusal}
use Rattle.samples.proofs.FirstSlope.{nine-exactly, first_approach}
use Rattle.samples.proofs.Seconds.{some-means, few-means}
use Rattle.samples.proofs.OwnSeconds.{limited-means}
use Rattle.samples.specs.Runs.{Limited}
use Rattle.samples.proofs.Recordings.{record_length, record_instants}
use Rattle.checks.specs.Checked.{Samples}
use Rattle.common.specs.Numbers.{nought}
use Rattle.orbit.specs.Passes.{approach_or, middle_of, measured_by}
use Rattle.checks.specs.Limits.{farthest_instant}

-- a refusal is no answer
pub not_refused : {A : Type 0} (n : ℕ) (a : A) → ◌≡◌ {A = Outcome A} (refused n) (answered a) → ⊥
not_refused n a e = let z : ◌≡◌ {A = ℕ} 0 1 = cc e in omega arith

-- it is one of them, so no farther
pub measured-near : (ts : List ℤ) (fs : List Float) → ((k : ℕ) → nat_abs (get_or ts k (pos 0)) ≤ farthest_instant) → nat_abs (measured_by ts fs).instant.0 ≤ farthest_instant
measured-near ts fs h = go (lt (least_slope no_floor ts fs).slope nought)
  where
    go : (b : Bool) → nat_abs (approach_or (middle_of ts) (cond b (answered (get_or ts (least_slope no_floor ts fs).middle (pos 0))) (refused no_fall_refusal))).instant.0 ≤ farthest_instant
    go true = h _
    go false = h _

-- an approach is found exactly where the frequency falls about a sample, so the fallback is taken exactly where it falls about none
pub fallback_where : (ts : List ℤ) (fs : List Float) → T (measured_by ts fs).fallback ↔ ((j : ℕ) → Falls ts fs j → ⊥)
fallback_where ts fs = go (approach_of ts fs) refl
  where
    go : (o : Outcome ℤ) → approach_of ts fs ≡ o → T (approach_or (middle_of ts) o).fallback ↔ ((j : ℕ) → Falls ts fs j → ⊥)
    go (refused n) e = (λ u j f. let r = first_approach ts fs (λ nine. (nine-exactly ts fs).0 nine j f) in not_refused n (get_or ts r.0 (pos 0)) (sym e ∙ r.2), λ none. tt)
    go (answered t) e = (λ u. absurd u, λ none. absurd (not_refused no_fall_refusal t (sym ((nine-exactly ts fs).1 none) ∙ e)))

-- a list of samples by its two parts
pub by_parts : (M : List Sample) → recording (instants M) (frequencies M) ≡ M
unfolding recording
by_parts [] = refl
by_parts (x ∷ M) = ap {B = List Sample} (λ l. x ∷ l) (by_parts M)

-- the means of samples that passed their checks pass them too
pub means-sampled : (ts : List ℤ) (fs : List Float) → Samples ts fs → Samples (instants (means (recording ts fs))) (frequencies (means (recording ts fs)))
means-sampled ts fs h =
    let S = recording ts fs in
    let M = means S in
    let n : length S ≡ length ts = record_length ts fs h.same in
    let a : length (instants M) ≡ length M = length-map M (λ (x : Sample). x.instant) in
    let b : length (frequencies M) ≡ length M = length-map M (λ (x : Sample). x.frequency) in
    let i : instants S ≡ ts = record_instants ts fs h.same in
    record {
      some = let u = some-means S (omega (arith, n, h.some)) in omega (arith, u, a);
      few = let u = few-means S in omega (arith, u, a, n, h.few);
      same = b ∙ sym a;
      near = limited-means S (subst Limited (sym i) h.near);
    }

-- the front of an area on which n values were written
pub front : {A : Type 0} (values old area : List A) (n : ℕ) → n ≡ length values → area ≡ written values old → take n area ≡ values
front values old area n e h = ap₂ take e h ∙ take-append_seam values (drop (length values) old)

-- the count of an answer
abbrev counted : Outcome ℕ → ℕ
counted (refused n) = n
counted (answered n) = n

pub same_count : (n m : ℕ) → answered n ≡ answered m → n ≡ m
same_count n m e = ap counted e
