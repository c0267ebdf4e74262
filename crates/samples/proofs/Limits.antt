-- The limit on instants: of a part of them, and as the machine reads one. Samples that are alike to others are among them, so the limit and whatever else holds of the others' instants holds of theirs. Assumes nothing.
use mathlib.Core.Path.{◌≡◌, refl, sym, ap, subst}
use mathlib.Core.Logic.{◌⊎◌, inl, inr}
use mathlib.Core.Bool.{Bool, true, false, cond}
use mathlib.Core.List.Memᴰ
use mathlib.Core.List.{List, [], ◌∷◌, ◌++◌, Memᴰ}
use Prim.Native.Nat.{ℕ, zero, suc, ◌+◌, ◌≤◌, ◌<◌}
use native.Mathlib.Omega.{arith}
use lib.Dec.{T, eqb}
use lib.IntN.{ℤ, pos, nat_abs}
use lib.ListN.{length, get_or, take, drop, set}
use lib.Seq.{get_or-drop}
use lib.Ieee.{Float}
use mir.Syntax.{w64}
use mir.Val.{SFits}
use Rattle.common.proofs.Parts.{within-fits, abs_parts}
use Rattle.checks.specs.Limits.{farthest_instant}
use Rattle.common.specs.Integers.{eq_z}
use Rattle.samples.specs.Means.{Sample, whole_second, bin, recording, instants, Alike}
use Rattle.samples.specs.Runs.{Limited}
use Rattle.samples.specs.Sorting.{picked, SameBins}
use Rattle.common.proofs.Integers.{eq→eq_z}
use Rattle.samples.proofs.Recordings.{record_length, record_instants}

-- of a list's front, and of its rest
pub limited-take : (n : ℕ) (l : List ℤ) → Limited l → Limited (take n l)
limited-take zero l h k = omega arith
limited-take (suc n) [] h k = omega arith
limited-take (suc n) (x ∷ l) h zero = h 0
limited-take (suc n) (x ∷ l) h (suc k) = limited-take n l (λ j. h (suc j)) k

pub limited-drop : (n : ℕ) (l : List ℤ) → Limited l → Limited (drop n l)
limited-drop n l h k = subst (λ (z : ℤ). nat_abs z ≤ farthest_instant) (sym (get_or-drop n l k (pos 0))) (h (n + k))

-- of a list with one instant changed, of two lists, and of those of a list that are picked
pub limited-set : (l : List ℤ) (i : ℕ) (t : ℤ) → Limited l → nat_abs t ≤ farthest_instant → Limited (set l i t)
limited-set [] i t h b k = h k
limited-set (x ∷ l) zero t h b zero = b
limited-set (x ∷ l) zero t h b (suc k) = h (suc k)
limited-set (x ∷ l) (suc i) t h b zero = h 0
limited-set (x ∷ l) (suc i) t h b (suc k) = limited-set l i t (λ j. h (suc j)) b k

pub limited-append : (a b : List ℤ) → Limited a → Limited b → Limited (a ++ b)
limited-append [] b h q k = q k
limited-append (x ∷ a) b h q zero = h 0
limited-append (x ∷ a) b h q (suc k) = limited-append a b (λ j. h (suc j)) q k

pub limited-picked : (d : ℕ) (ms : List ℕ) (l : List ℤ) → Limited l → Limited (picked d ms l)
unfolding picked
limited-picked d [] l h k = omega arith
limited-picked d (m ∷ ms) [] h k = h k
limited-picked d (m ∷ ms) (x ∷ l) h k = go (eqb m d) (limited-picked d ms l (λ j. h (suc j))) k
  where
    go : (v : Bool) → Limited (picked d ms l) → Limited (cond v (x ∷ picked d ms l) (picked d ms l))
    go true r zero = h 0
    go true r (suc k) = r k
    go false r k = r k

-- as the machine holds it and reads it back
pub limit_fits : (t : ℤ) → nat_abs t ≤ farthest_instant → SFits w64 t
limit_fits t h = within-fits t (omega (arith, abs_parts t))

-- ---- samples that are alike to others are among them

-- a sample is among those of its second
mem-bin : (x : Sample) (S : List Sample) → Memᴰ x S → Memᴰ x (bin (whole_second x.instant) S)
unfolding bin
mem-bin x [] m = absurd (Memᴰ.not-nil m)
mem-bin x (y ∷ ys) m = go (eq_z (whole_second y.instant) (whole_second x.instant)) (λ e. eq→eq_z (whole_second y.instant) (whole_second x.instant) (ap (λ (z : Sample). whole_second z.instant) (sym e))) (Memᴰ.cases_cons m) (mem-bin x ys)
  where
    go : (v : Bool) → (x ≡ y → T v) → (x ≡ y) ⊎ Memᴰ x ys → (Memᴰ x ys → Memᴰ x (bin (whole_second x.instant) ys)) → Memᴰ x (cond v (y ∷ bin (whole_second x.instant) ys) (bin (whole_second x.instant) ys))
    go true f (inl e) r = Memᴰ.head e
    go true f (inr n) r = Memᴰ.tail (r n)
    go false f (inl e) r = absurd (f e)
    go false f (inr n) r = r n

-- and those of a second are among all
bin-mem : (s : ℤ) (x : Sample) (S : List Sample) → Memᴰ x (bin s S) → Memᴰ x S
unfolding bin
bin-mem s x [] m = m
bin-mem s x (y ∷ ys) m = go (eq_z (whole_second y.instant) s) m (bin-mem s x ys)
  where
    deeper : (Memᴰ x (bin s ys) → Memᴰ x ys) → (x ≡ y) ⊎ Memᴰ x (bin s ys) → Memᴰ x (y ∷ ys)
    deeper r (inl e) = Memᴰ.head e
    deeper r (inr n) = Memᴰ.tail (r n)

    go : (v : Bool) → Memᴰ x (cond v (y ∷ bin s ys) (bin s ys)) → (Memᴰ x (bin s ys) → Memᴰ x ys) → Memᴰ x (y ∷ ys)
    go true n r = deeper r (Memᴰ.cases_cons n)
    go false n r = Memᴰ.tail (r n)

alike_mem : (S S' : List Sample) → Alike S S' → (x : Sample) → Memᴰ x S → Memᴰ x S'
alike_mem S S' a x m = bin-mem (whole_second x.instant) x S' (subst (Memᴰ x) (a (whole_second x.instant)) (mem-bin x S m))

-- ---- so what holds of the others' instants holds of theirs

module _ (P : ℤ → Type 0) where
  -- of each sample, by its place
  all_mem : (S : List Sample) → ((k : ℕ) → k < length S → P (get_or (instants S) k (pos 0))) → (x : Sample) → Memᴰ x S → P x.instant
  all_mem [] f x m = absurd (Memᴰ.not-nil m)
  all_mem (y ∷ ys) f x m = go (Memᴰ.cases_cons m) (all_mem ys (λ k h. f (suc k) (omega arith)) x)
    where
      go : (x ≡ y) ⊎ Memᴰ x ys → (Memᴰ x ys → P x.instant) → P x.instant
      go (inl e) r = subst (λ (z : Sample). P z.instant) (sym e) (f 0 (omega arith))
      go (inr n) r = r n

  -- and of each place, by its sample
  mem_all : (S : List Sample) → ((x : Sample) → Memᴰ x S → P x.instant) → (k : ℕ) → k < length S → P (get_or (instants S) k (pos 0))
  mem_all [] f k h = absurd (omega arith)
  mem_all (x ∷ xs) f zero h = f x (Memᴰ.head refl)
  mem_all (x ∷ xs) f (suc k) h = mem_all xs (λ y m. f y (Memᴰ.tail m)) k (omega arith)

-- of the samples of two slices, before and after
module _ (ts : List ℤ) (fs : List Float) (ts' : List ℤ) (fs' : List Float) (e : length fs ≡ length ts) (e' : length fs' ≡ length ts') (a : SameBins ts fs ts' fs') where
  pub alike_all : (P : ℤ → Type 0) → ((i : ℕ) → i < length ts → P (get_or ts i (pos 0))) → (i : ℕ) → i < length ts' → P (get_or ts' i (pos 0))
  alike_all P f i u =
      let S = recording ts fs in
      let S' = recording ts' fs' in
      let old : (j : ℕ) → j < length S → P (get_or (instants S) j (pos 0)) = λ j v. subst P (sym (ap (λ (l : List ℤ). get_or l j (pos 0)) (record_instants ts fs e))) (f j (omega (arith, record_length ts fs e))) in
      subst P (ap (λ (l : List ℤ). get_or l i (pos 0)) (record_instants ts' fs' e'))
      (mem_all P S' (λ x m. all_mem P S old x (alike_mem S' S a x m)) i (omega (arith, record_length ts' fs' e')))
