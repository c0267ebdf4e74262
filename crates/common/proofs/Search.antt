-- The law of the search for the first of the best: after each place the best so far is b, where none of the places beats it, or stands at the first of the best, since what is better than that
-- place is better than every one that it beats. At most one place is the first of the best. Then the steps of a loop that searches. Assumes nothing.
use mathlib.Core.Path.{◌≡◌, refl, sym, subst}
use mathlib.Core.Bool.{Bool, true, false, not, cond}
use mathlib.Core.List.{List, [], ◌∷◌, ◌++◌, map}
use Prim.Native.Nat.{ℕ, zero, suc, ◌+◌, ◌-◌, ◌≤◌, ◌<◌}
use native.Mathlib.Decide.{ℕ_discrete, dec_le}
use native.Mathlib.Omega.{arith}
use lib.Dec.{T, T_not, not_T}
use lib.ListN.{length, get_or, length-map, get_or-map}
use Rattle.common.specs.Lists.{list_of}
use Rattle.common.specs.Search.{better_of, first_best, Comparison, FirstOfBest, Searched, kept, won}
use Rattle.common.proofs.Filled.{filled}

-- ---- the law

module _ {A : Type 0} (better : A → A → Bool) (b : A) (at : ℕ → A) (k n : ℕ) where
  -- two places are not both the first of the best
  pub one-first : (i j : ℕ) → FirstOfBest better b at k n i → FirstOfBest better b at k n j → j ≡ i
  one-first i j u v =
      let p : ¬ (i < j) = λ h. clash i j h u v in
      let q : ¬ (j < i) = λ h. clash j i h v u in
      omega arith
    where
      clash : (i j : ℕ) → i < j → FirstOfBest better b at k n i → FirstOfBest better b at k n j → ⊥
      clash i j h u v = T_not (better (at j) (at i)) (u.best j v.from v.inside) (v.first i u.from h u.beats)

  -- what b and every place have, the end of a search has
  pub found_among : {w : A} (P : A → Type 0) → Searched better b at k n w → P b → ((j : ℕ) → k ≤ j → j < n → P (at j)) → P w
  found_among P (kept e none) p q = subst P (sym e) p
  found_among P (won i e f) p q = subst P (sym e) (q i f.from f.inside)

module _ {A : Type 0} (better : A → A → Bool) (law : Comparison better) (b : A) (at : ℕ → A) (k : ℕ) where
  -- one place more
  one_more : (n : ℕ) (w : A) → k ≤ n → Searched better b at k n w → Searched better b at k (suc n) (better_of better w (at n))
  one_more n w l (kept e none) = subst (λ (x : A). Searched better b at k (suc n) (better_of better x (at n))) (sym e) (go (better (at n) b) (λ h. h) (λ h. h))
    where
      go : (v : Bool) → (T v → T (better (at n) b)) → (T (not v) → T (not (better (at n) b))) → Searched better b at k (suc n) (cond v (at n) b)
      go true f g =
          won n refl
          (record {
            from = l;
            inside = omega arith;
            beats = f tt;
            best = λ j m h. elim (ℕ_discrete j n) [
              | yes q ↦ subst (λ (x : ℕ). T (not (better (at x) (at n)))) (sym q) (law.never_itself (at n))
              | no ne ↦ not_T (better (at j) (at n)) (λ u. T_not (better (at j) b) (none j m (omega arith)) (law.through (at j) (at n) b u (f tt)))
            ];
            first = λ j m h u. absurd (T_not (better (at j) b) (none j m h) u);
          })
      go false f g = kept refl (λ j m h. elim (ℕ_discrete j n) [ yes q ↦ subst (λ (x : ℕ). T (not (better (at x) b))) (sym q) (g tt) | no ne ↦ none j m (omega arith) ])
  one_more n w l (won i e o) = subst (λ (x : A). Searched better b at k (suc n) (better_of better x (at n))) (sym e) (go (better (at n) (at i)) (λ h. h) (λ h. h))
    where
      go : (v : Bool) → (T v → T (better (at n) (at i))) → (T (not v) → T (not (better (at n) (at i)))) → Searched better b at k (suc n) (cond v (at n) (at i))
      go true f g =
          won n refl
          (record {
            from = l;
            inside = omega arith;
            beats = law.through (at n) (at i) b (f tt) o.beats;
            best = λ j m h. elim (ℕ_discrete j n) [
              | yes q ↦ subst (λ (x : ℕ). T (not (better (at x) (at n)))) (sym q) (law.never_itself (at n))
              | no ne ↦ not_T (better (at j) (at n)) (λ u. T_not (better (at j) (at i)) (o.best j m (omega arith)) (law.through (at j) (at n) (at i) u (f tt)))
            ];
            first = λ j m h u. law.past (at n) (at i) (at j) b (f tt) u (o.best j m h);
          })
      go false f g =
          won i refl
          (record {
            from = o.from;
            inside = omega (arith, o.inside);
            beats = o.beats;
            best = λ j m h. elim (ℕ_discrete j n) [ yes q ↦ subst (λ (x : ℕ). T (not (better (at x) (at i)))) (sym q) (g tt) | no ne ↦ o.best j m (omega arith) ];
            first = o.first;
          })

  -- and so d places more
  scan : (d n : ℕ) (w : A) → k ≤ n → Searched better b at k n w → Searched better b at k (n + d) (first_best better w (list_of at d n))
  unfolding first_best list_of
  scan zero n w l s = subst (λ (m : ℕ). Searched better b at k m w) (omega arith) s
  scan (suc d) n w l s =
      subst (λ (m : ℕ). Searched better b at k m (first_best better (better_of better w (at n)) (list_of at d (n + 1)))) (omega arith)
      (scan d (n + 1) (better_of better w (at n)) (omega arith) (subst (λ (m : ℕ). Searched better b at k m (better_of better w (at n))) (omega arith) (one_more n w l s)))

  -- the law: the search through at k, .., at (n − 1)
  pub first_of_best : (n : ℕ) → Searched better b at k n (first_best better b (list_of at (n - k) k))
  unfolding first_best list_of
  first_of_best n = go (dec_le k n)
    where
      go : Dec (k ≤ n) → Searched better b at k n (first_best better b (list_of at (n - k) k))
      go (yes l) = subst (λ (m : ℕ). Searched better b at k m (first_best better b (list_of at (n - k) k))) (omega arith) (scan (n - k) k b (omega arith) (kept refl (λ j m h. absurd (omega arith))))
      go (no l) =
          let e : 0 ≡ n - k = omega arith in
          subst (λ (d : ℕ). Searched better b at k n (first_best better b (list_of at d k))) e (kept refl (λ j m h. absurd (omega arith)))

-- from place 0 on
pub first-from-zero : {A : Type 0} (better : A → A → Bool) (law : Comparison better) (b : A) (at : ℕ → A) (n : ℕ) → Searched better b at 0 n (first_best better b (list_of at n 0))
first-from-zero better law b at n =
    let e : n - 0 ≡ n = omega arith in
    subst (λ (d : ℕ). Searched better b at 0 n (first_best better b (list_of at d 0))) e (first_of_best better law b at 0 n)

-- a list of candidates is the list of their places, and so the law holds of a search through it
pub first_of_mapped : {A B : Type 0} (better : B → B → Bool) (law : Comparison better) (b : B) (f : A → B) (d : A) (L : List A) → Searched better b (λ j. f (get_or L j d)) 0 (length L) (first_best better b (map f L))
first_of_mapped {B} better law b f d L =
    let at : ℕ → B = λ j. f (get_or L j d) in
    let e : map f L ≡ list_of at (length L) 0 = filled at (length L) (f d) (map f L) (length-map L f) (λ j h. get_or-map f L j d) in
    subst (λ (l : List B). Searched better b at 0 (length L) (first_best better b l)) (sym e) (first-from-zero better law b at (length L))

-- ---- the steps of a search

module _ {A : Type 0} (better : A → A → Bool) where
  -- the loop over at k, .., at (n − 1): one place more
  pub search_step : (at : ℕ → A) (n k : ℕ) (best : A) → k < n → first_best better (better_of better best (at k)) (list_of at (n - (k + 1)) (k + 1)) ≡ first_best better best (list_of at (n - k) k)
  unfolding first_best list_of
  search_step at n k best h =
      let e : n - k ≡ suc (n - (k + 1)) = omega arith in
      rw e

  -- and the end
  pub search_end : (at : ℕ → A) (n k : ℕ) (best : A) → n ≤ k → first_best better best (list_of at (n - k) k) ≡ best
  unfolding first_best list_of
  search_end at n k best h =
      let e : n - k ≡ 0 = omega arith in
      rw e

  -- one list after another: the second begins with the best of the first
  pub search_append : (best : A) (s t : List A) → first_best better best (s ++ t) ≡ first_best better (first_best better best s) t
  unfolding first_best
  search_append best [] t = refl
  search_append best (x ∷ xs) t = search_append (better_of better best x) xs t
