-- The list of seconds by its places: after the seconds below a bound comes the least second of a sample at or after it. Assumes nothing.
use mathlib.Core.Path.{◌≡◌, refl, sym, ap, ◌∙◌, subst}
use mathlib.Core.Logic.{◌⊎◌, inl, inr}
use mathlib.Core.Bool.{Bool, true, false, not}
use mathlib.Core.List.Memᴰ
use mathlib.Core.List.{List, [], ◌∷◌, map, Memᴰ}
use Prim.Native.Nat.{ℕ, zero, suc, ◌+◌, ◌≤◌, ◌<◌}
use native.Mathlib.Nat.{eq-or-lt_of_le}
use native.Mathlib.Omega.{arith}
use lib.Dec.{T, ltb, ltb→lt, nltb→le}
use lib.IntN.{ℤ, pos, ◌+ℤ◌}
use lib.Signed.{◌<ℤ◌, ◌≤ℤ◌, clash_ℤ}
use lib.ListN.{length, get_or, length-map}
use lib.Ieee.{Float, nan}
use Rattle.common.proofs.Parts.{lt_parts, parts_le, parts_lt, add_parts}
use Rattle.samples.specs.Means.{Sample, whole_second, bin, seconds, recording, mean_of, means, instants, frequencies, Rising}
use Rattle.samples.specs.Runs.{second_at}
use Rattle.samples.proofs.Seconds.{inserted, kept, only, under_at, rising}
use Rattle.samples.proofs.Recordings.{no_sample, record_length, record_at}

-- ---- the members of a list, by their places

pub member_at : (l : List ℤ) (k : ℕ) → k < length l → Memᴰ (get_or l k (pos 0)) l
member_at [] k h = absurd (omega arith)
member_at (x ∷ l) zero h = Memᴰ.head refl
member_at (x ∷ l) (suc k) h = Memᴰ.tail (member_at l k (omega arith))

pub place_of_lem : (l : List ℤ) (x : ℤ) → Memᴰ x l → (k : ℕ) × (k < length l) × (get_or l k (pos 0) ≡ x)
place_of_lem [] x m = absurd (Memᴰ.not-nil m)
place_of_lem (y ∷ l) x m = go (Memᴰ.cases_cons m) (place_of_lem l x)
  where
    go : (x ≡ y) ⊎ Memᴰ x l → (Memᴰ x l → (k : ℕ) × (k < length l) × (get_or l k (pos 0) ≡ x)) → (k : ℕ) × (k < suc (length l)) × (get_or (y ∷ l) k (pos 0) ≡ x)
    go (inl e) r = (0, omega arith, sym e)
    go (inr n) r = let p = r n in (suc p.0, omega (arith, p.1), p.2)

rising_at : (l : List ℤ) → Rising l → (i j : ℕ) → i < j → j < length l → get_or l i (pos 0) <ℤ get_or l j (pos 0)
rising_at [] r i j h k = absurd (omega arith)
rising_at (s ∷ l) r i zero h k = absurd (omega arith)
rising_at (s ∷ l) r zero (suc j) h k = under_at s (get_or l j (pos 0)) l r.0 (member_at l j (omega arith))
rising_at (s ∷ l) r (suc i) (suc j) h k = rising_at l r.1 i j (omega arith) (omega arith)

-- a sample's second is listed, and a listed second is a sample's
has_second : (S : List Sample) (k : ℕ) → k < length S → Memᴰ (whole_second (get_or S k no_sample).instant) (seconds S)
unfolding seconds
has_second [] k h = absurd (omega arith)
has_second (x ∷ xs) zero h = inserted (whole_second x.instant) (seconds xs)
has_second (x ∷ xs) (suc k) h = kept (whole_second x.instant) (whole_second (get_or xs k no_sample).instant) (seconds xs) (has_second xs k (omega arith))

has_sample : (S : List Sample) (s : ℤ) → Memᴰ s (seconds S) → (k : ℕ) × (k < length S) × (whole_second (get_or S k no_sample).instant ≡ s)
unfolding seconds
has_sample [] s m = absurd (Memᴰ.not-nil m)
has_sample (x ∷ xs) s m = go (only (whole_second x.instant) s (seconds xs) m) (has_sample xs s)
  where
    go : (s ≡ whole_second x.instant) ⊎ Memᴰ s (seconds xs) → (Memᴰ s (seconds xs) → (k : ℕ) × (k < length xs) × (whole_second (get_or xs k no_sample).instant ≡ s)) → (k : ℕ) × (k < suc (length xs)) × (whole_second (get_or (x ∷ xs) k no_sample).instant ≡ s)
    go (inl e) r = (0, omega arith, sym e)
    go (inr n) r = let p = r n in (suc p.0, omega (arith, p.1), p.2)

-- ---- the means, by their places

get_d_map : {A B : Type 0} (f : A → B) (l : List A) (k : ℕ) (d : A) (e : B) → k < length l → get_or (map f l) k e ≡ f (get_or l k d)
get_d_map f [] k d e h = absurd (omega arith)
get_d_map f (x ∷ l) zero d e h = refl
get_d_map f (x ∷ l) (suc k) d e h = get_d_map f l k d e (omega arith)

module _ (S : List Sample) (c : ℕ) (h : c < length (seconds S)) where
  mean_at_lem : get_or (means S) c no_sample ≡ mean_of (bin (get_or (seconds S) c (pos 0)) S)
  unfolding means
  mean_at_lem = get_d_map (λ s. mean_of (bin s S)) (seconds S) c (pos 0) no_sample h

  inside : c < length (means S)
  unfolding means
  inside = omega (arith, length-map (seconds S) (λ s. mean_of (bin s S)))

  pub instant_at : get_or (instants (means S)) c (pos 0) ≡ (mean_of (bin (get_or (seconds S) c (pos 0)) S)).instant
  instant_at = get_d_map (λ (x : Sample). x.instant) (means S) c no_sample (pos 0) inside ∙ ap (λ (x : Sample). x.instant) mean_at_lem

  pub frequency_at : get_or (frequencies (means S)) c nan ≡ (mean_of (bin (get_or (seconds S) c (pos 0)) S)).frequency
  frequency_at = get_d_map (λ (x : Sample). x.frequency) (means S) c no_sample nan inside ∙ ap (λ (x : Sample). x.frequency) mean_at_lem

-- ---- the seconds below a bound, and from it on

pub record Split (l : List ℤ) (bound : ℤ) (c : ℕ) : Type 0 where
  pub before : (k : ℕ) → k < c → get_or l k (pos 0) <ℤ bound
  pub after : (k : ℕ) → c ≤ k → k < length l → bound ≤ℤ get_or l k (pos 0)
  pub within : c ≤ length l

-- past a listed second the others are at least one more
pub split_next : (l : List ℤ) → Rising l → (c : ℕ) → c < length l → Split l (get_or l c (pos 0) +ℤ pos 1) (c + 1)
split_next l r c h = record { before = λ k u. below k (eq-or-lt_of_le {n = k} {m = c} (omega arith)); after = λ k u v. above k (omega arith) v; within = omega arith }
  where
    below : (k : ℕ) → (k ≡ c) ⊎ (k < c) → get_or l k (pos 0) <ℤ (get_or l c (pos 0) +ℤ pos 1)
    below k (inl e) = subst (λ (j : ℕ). get_or l j (pos 0) <ℤ (get_or l c (pos 0) +ℤ pos 1)) (sym e) (record { lt = parts_lt (get_or l c (pos 0)) (get_or l c (pos 0) +ℤ pos 1) (omega (arith, add_parts (get_or l c (pos 0)) (pos 1))) })
    below k (inr u) = record { lt = parts_lt (get_or l k (pos 0)) (get_or l c (pos 0) +ℤ pos 1) (omega (arith, lt_parts (get_or l k (pos 0)) (get_or l c (pos 0)) (rising_at l r k c u h).lt, add_parts (get_or l c (pos 0)) (pos 1))) }

    above : (k : ℕ) → c < k → k < length l → (get_or l c (pos 0) +ℤ pos 1) ≤ℤ get_or l k (pos 0)
    above k u v = record { le = parts_le (get_or l c (pos 0) +ℤ pos 1) (get_or l k (pos 0)) (omega (arith, lt_parts (get_or l c (pos 0)) (get_or l k (pos 0)) (rising_at l r c k u v).lt, add_parts (get_or l c (pos 0)) (pos 1))) }

module _ (ts : List ℤ) (fs : List Float) (e : length fs ≡ length ts) where
  -- the second of sample k, by its place
  pub at_is : (k : ℕ) → k < length ts → whole_second (get_or (recording ts fs) k no_sample).instant ≡ second_at ts k
  at_is k h = ap (λ (x : Sample). whole_second x.instant) (record_at ts fs e k h no_sample)

  long : length (recording ts fs) ≡ length ts
  long = record_length ts fs e

  -- among the seconds it has a place
  second-place : (k : ℕ) → k < length ts → (j : ℕ) × (j < length (seconds (recording ts fs))) × (get_or (seconds (recording ts fs)) j (pos 0) ≡ second_at ts k)
  second-place k h = place_of_lem (seconds (recording ts fs)) (second_at ts k) (Memᴰ.cast (sym (at_is k h)) (has_second (recording ts fs) k (omega (arith, long))))

  -- the sample of a second, by its place
  sample_place : (j : ℕ) → j < length (seconds (recording ts fs)) → (k : ℕ) × (k < length ts) × (second_at ts k ≡ get_or (seconds (recording ts fs)) j (pos 0))
  sample_place j h =
      let p = has_sample (recording ts fs) (get_or (seconds (recording ts fs)) j (pos 0)) (member_at (seconds (recording ts fs)) j h) in
      (p.0, omega (arith, p.1, long), sym (at_is p.0 (omega (arith, p.1, long))) ∙ p.2)

  -- at the start no second is below the bound
  pub split-first : (bound : ℤ) → ((k : ℕ) → k < length ts → bound ≤ℤ second_at ts k) → Split (seconds (recording ts fs)) bound 0
  split-first bound h = record { before = λ k u. absurd (omega arith); after = λ k u v. let p = sample_place k v in subst (λ (z : ℤ). bound ≤ℤ z) p.2 (h p.0 p.1); within = omega arith }

  module _ (bound : ℤ) (c : ℕ) (sp : Split (seconds (recording ts fs)) bound c) where
    -- no sample from the bound on: all the seconds are below it
    pub none_left : ((k : ℕ) → k < length ts → bound ≤ℤ second_at ts k → ⊥) → c ≡ length (seconds (recording ts fs))
    none_left h = go (eq-or-lt_of_le sp.within)
      where
        go : (c ≡ length (seconds (recording ts fs))) ⊎ (c < length (seconds (recording ts fs))) → c ≡ length (seconds (recording ts fs))
        go (inl q) = q
        go (inr u) = let p = sample_place c u in absurd (h p.0 p.1 (subst (λ (z : ℤ). bound ≤ℤ z) (sym p.2) (sp.after c (omega arith) u)))

    -- the least second of a sample from the bound on stands next
    pub next_is : (k : ℕ) → k < length ts → bound ≤ℤ second_at ts k → ((j : ℕ) → j < length ts → bound ≤ℤ second_at ts j → second_at ts k ≤ℤ second_at ts j) → (c < length (seconds (recording ts fs))) × (get_or (seconds (recording ts fs)) c (pos 0) ≡ second_at ts k)
    next_is k h b least = at_place (second-place k h)
      where
        -- a second at another place than c is too early or not the least
        early : (j : ℕ) → get_or (seconds (recording ts fs)) j (pos 0) ≡ second_at ts k → j < c → ⊥
        early j q u = clash_ℤ (sp.before j u) (subst (λ (z : ℤ). bound ≤ℤ z) (sym q) b)

        far : (j : ℕ) → j < length (seconds (recording ts fs)) → get_or (seconds (recording ts fs)) j (pos 0) ≡ second_at ts k → c < j → ⊥
        far j v q u =
            let r = sample_place c (omega arith) in
            let l : second_at ts k ≤ℤ second_at ts r.0 = least r.0 r.1 (subst (λ (z : ℤ). bound ≤ℤ z) (sym r.2) (sp.after c (omega arith) (omega arith))) in
            clash_ℤ (subst (λ (z : ℤ). get_or (seconds (recording ts fs)) c (pos 0) <ℤ z) q (rising_at (seconds (recording ts fs)) (rising (recording ts fs)) c j u v)) (subst (λ (z : ℤ). second_at ts k ≤ℤ z) r.2 l)

        from : (j : ℕ) → j < length (seconds (recording ts fs)) → get_or (seconds (recording ts fs)) j (pos 0) ≡ second_at ts k → (c ≡ j) ⊎ (c < j) → (c < length (seconds (recording ts fs))) × (get_or (seconds (recording ts fs)) c (pos 0) ≡ second_at ts k)
        from j v q (inl i) = (omega arith, ap (λ (m : ℕ). get_or (seconds (recording ts fs)) m (pos 0)) i ∙ q)
        from j v q (inr u) = absurd (far j v q u)

        split : (j : ℕ) → j < length (seconds (recording ts fs)) → get_or (seconds (recording ts fs)) j (pos 0) ≡ second_at ts k → (v : Bool) → (T v → j < c) → (T (not v) → c ≤ j) → (c < length (seconds (recording ts fs))) × (get_or (seconds (recording ts fs)) c (pos 0) ≡ second_at ts k)
        split j u q true f g = absurd (early j q (f tt))
        split j u q false f g = from j u q (eq-or-lt_of_le (g tt))

        at_place : (j : ℕ) × (j < length (seconds (recording ts fs))) × (get_or (seconds (recording ts fs)) j (pos 0) ≡ second_at ts k) → (c < length (seconds (recording ts fs))) × (get_or (seconds (recording ts fs)) c (pos 0) ≡ second_at ts k)
        at_place p = split p.0 p.1 p.2 (ltb p.0 c) (ltb→lt p.0 c) (nltb→le p.0 c)
