-- A second is listed exactly when a sample lies in it, and the list rises strictly; nothing else is such a list. So recordings alike in every second have the same seconds and the same means. Assumes nothing.
use mathlib.Core.Path.{◌≡◌, refl, sym, ◌∙◌, ap, subst, fun_ext}
use mathlib.Core.Logic.{◌≢◌, ◌⊎◌, inl, inr}
use mathlib.Core.Bool.{Bool, true, false, not, cond}
use mathlib.Core.List.Memᴰ
use mathlib.Core.List.{List, [], ◌∷◌, ◌++◌, map, Memᴰ}
use Prim.Native.Nat.{ℕ, suc, ◌≤◌, ◌<◌}
use native.Mathlib.Omega.{arith}
use lib.Dec.{T}
use lib.IntN.{ℤ}
use lib.Signed.{lt_z, ◌<ℤ◌, lt_z_yes, <ℤ_irrefl}
use lib.ListN.{length, length-map}
use Rattle.common.proofs.Parts.{lt_through, neither_lt}
use Rattle.common.specs.Integers.{eq_z}
use Rattle.samples.specs.Means.{Sample, whole_second, bin, insert, seconds, mean_of, means, Alike, Under, Rising}
use Rattle.common.proofs.Integers.{eq_z→eq, eq_z_refl}

-- ---- the order of ℤ

pub <ℤ-trans : {a b c : ℤ} → a <ℤ b → b <ℤ c → a <ℤ c
<ℤ-trans {a} {b} {c} h k = record { lt = lt_through a b c h.lt k.lt }

-- ---- what insertion does

-- it is there
pub inserted : (s : ℤ) (l : List ℤ) → Memᴰ s (insert s l)
unfolding insert
inserted s [] = Memᴰ.head refl
inserted s (t ∷ ts) = go (lt_z s t) (lt_z t s) (neither_lt s t) (inserted s ts)
  where
    go : (v w : Bool) → (T (not v) → T (not w) → s ≡ t) → Memᴰ s (insert s ts) → Memᴰ s (cond v (s ∷ t ∷ ts) (cond w (t ∷ insert s ts) (t ∷ ts)))
    go true w e r = Memᴰ.head refl
    go false true e r = Memᴰ.tail r
    go false false e r = Memᴰ.head (e tt tt)

-- what was there stays
pub kept : (s x : ℤ) (l : List ℤ) → Memᴰ x l → Memᴰ x (insert s l)
unfolding insert
kept s x [] m = absurd (Memᴰ.not-nil m)
kept s x (t ∷ ts) m = go (lt_z s t) (lt_z t s) (Memᴰ.cases_cons m) (kept s x ts)
  where
    go : (v w : Bool) → (x ≡ t) ⊎ Memᴰ x ts → (Memᴰ x ts → Memᴰ x (insert s ts)) → Memᴰ x (cond v (s ∷ t ∷ ts) (cond w (t ∷ insert s ts) (t ∷ ts)))
    go true w c r = Memᴰ.tail m
    go false true (inl e) r = Memᴰ.head e
    go false true (inr n) r = Memᴰ.tail (r n)
    go false false c r = m

-- and nothing else comes
pub only : (s x : ℤ) (l : List ℤ) → Memᴰ x (insert s l) → (x ≡ s) ⊎ Memᴰ x l
unfolding insert
only s x [] m = Memᴰ.cases_cons m
only s x (t ∷ ts) m = go (lt_z s t) (lt_z t s) (only s x ts) m
  where
    deeper : (x ≡ s) ⊎ Memᴰ x ts → (x ≡ s) ⊎ Memᴰ x (t ∷ ts)
    deeper (inl e) = inl e
    deeper (inr n) = inr (Memᴰ.tail n)

    past : (Memᴰ x (insert s ts) → (x ≡ s) ⊎ Memᴰ x ts) → (x ≡ t) ⊎ Memᴰ x (insert s ts) → (x ≡ s) ⊎ Memᴰ x (t ∷ ts)
    past r (inl e) = inr (Memᴰ.head e)
    past r (inr n) = deeper (r n)

    go : (v w : Bool) → (Memᴰ x (insert s ts) → (x ≡ s) ⊎ Memᴰ x ts) → Memᴰ x (cond v (s ∷ t ∷ ts) (cond w (t ∷ insert s ts) (t ∷ ts))) → (x ≡ s) ⊎ Memᴰ x (t ∷ ts)
    go true w r m = Memᴰ.cases_cons m
    go false true r m = past r (Memᴰ.cases_cons m)
    go false false r m = inr m

-- ---- lists that rise strictly

under_trans : (s t : ℤ) (l : List ℤ) → s <ℤ t → Under t l → Under s l
under_trans s t [] h u = tt
under_trans s t (x ∷ xs) h u = (<ℤ-trans h u.0, under_trans s t xs h u.1)

-- at a member
pub under_at : (s x : ℤ) (l : List ℤ) → Under s l → Memᴰ x l → s <ℤ x
under_at s x [] u m = absurd (Memᴰ.not-nil m)
under_at s x (t ∷ ts) u m = go (Memᴰ.cases_cons m) (under_at s x ts u.1)
  where
    go : (x ≡ t) ⊎ Memᴰ x ts → (Memᴰ x ts → s <ℤ x) → s <ℤ x
    go (inl e) r = subst (λ (z : ℤ). s <ℤ z) (sym e) u.0
    go (inr n) r = r n

under-insert : (a s : ℤ) (l : List ℤ) → a <ℤ s → Under a l → Under a (insert s l)
unfolding insert
under-insert a s [] h u = (h, tt)
under-insert a s (t ∷ ts) h u = go (lt_z s t) (lt_z t s) (under-insert a s ts h u.1)
  where
    go : (v w : Bool) → Under a (insert s ts) → Under a (cond v (s ∷ t ∷ ts) (cond w (t ∷ insert s ts) (t ∷ ts)))
    go true w r = (h, u)
    go false true r = (u.0, r)
    go false false r = u

rising_insert : (s : ℤ) (l : List ℤ) → Rising l → Rising (insert s l)
unfolding insert
rising_insert s [] r = (tt, tt)
rising_insert s (t ∷ ts) r = go (lt_z s t) (lt_z t s) (λ h. lt_z_yes {a = s} {b = t} h) (λ h. lt_z_yes {a = t} {b = s} h) (rising_insert s ts r.1)
  where
    go : (v w : Bool) → (T v → s <ℤ t) → (T w → t <ℤ s) → Rising (insert s ts) → Rising (cond v (s ∷ t ∷ ts) (cond w (t ∷ insert s ts) (t ∷ ts)))
    go true w f g i = ((f tt, under_trans s t ts (f tt) r.0), r)
    go false true f g i = (under-insert t s ts (g tt) r.0, i)
    go false false f g i = r

-- two lists that rise strictly and have the same members are the same
same_members : (l m : List ℤ) → Rising l → Rising m → ((x : ℤ) → Memᴰ x l → Memᴰ x m) → ((x : ℤ) → Memᴰ x m → Memᴰ x l) → l ≡ m
same_members [] [] r q f g = refl
same_members [] (b ∷ m) r q f g = absurd (Memᴰ.not-nil (g b (Memᴰ.head refl)))
same_members (a ∷ l) [] r q f g = absurd (Memᴰ.not-nil (f a (Memᴰ.head refl)))
same_members (a ∷ l) (b ∷ m) r q f g = go (Memᴰ.cases_cons (f a (Memᴰ.head refl))) (Memᴰ.cases_cons (g b (Memᴰ.head refl))) (same_members l m r.1 q.1)
  where
    -- a member of the one tail is a member of the other: it is not the head, below which it would lie
    tail_of : (c d x : ℤ) (k n : List ℤ) → c ≡ d → Under c k → Memᴰ x k → (x ≡ d) ⊎ Memᴰ x n → Memᴰ x n
    tail_of c d x k n e u i (inl p) = absurd (<ℤ_irrefl (subst (λ (z : ℤ). c <ℤ z) (p ∙ sym e) (under_at c x k u i)))
    tail_of c d x k n e u i (inr j) = j

    go : (a ≡ b) ⊎ Memᴰ a m → (b ≡ a) ⊎ Memᴰ b l → (((x : ℤ) → Memᴰ x l → Memᴰ x m) → ((x : ℤ) → Memᴰ x m → Memᴰ x l) → l ≡ m) → ◌≡◌ {A = List ℤ} (a ∷ l) (b ∷ m)
    go (inl e) c rest =
        let tails : l ≡ m = rest (λ x i. tail_of a b x l m e r.0 i (Memᴰ.cases_cons (f x (Memᴰ.tail i)))) (λ x i. tail_of b a x m l (sym e) q.0 i (Memᴰ.cases_cons (g x (Memᴰ.tail i)))) in
        cc
    go (inr i) (inl e) rest = absurd (<ℤ_irrefl (subst (λ (z : ℤ). b <ℤ z) (sym e) (under_at b a m q.0 i)))
    go (inr i) (inr j) rest = absurd (<ℤ_irrefl (<ℤ-trans (under_at b a m q.0 i) (under_at a b l r.0 j)))

-- ---- the seconds that hold a sample

cons_ne_nil : {A : Type 0} (x : A) (l : List A) → (x ∷ l) ≢ []
cons_ne_nil x l e = let z : ◌≡◌ {A = ℕ} 0 1 = cc in omega arith

-- the seconds rise strictly
pub rising : (S : List Sample) → Rising (seconds S)
unfolding seconds
rising [] = tt
rising (x ∷ xs) = rising_insert (whole_second x.instant) (seconds xs) (rising xs)

-- a listed second holds a sample
pub held : (s : ℤ) (S : List Sample) → Memᴰ s (seconds S) → bin s S ≢ []
unfolding seconds bin
held s [] m = absurd (Memᴰ.not-nil m)
held s (x ∷ xs) m = go (eq_z (whole_second x.instant) s) (λ e. subst (λ (z : ℤ). T (eq_z z s)) e (eq_z_refl s)) (only (whole_second x.instant) s (seconds xs) m) (held s xs)
  where
    go : (v : Bool) → (s ≡ whole_second x.instant → T v) → (s ≡ whole_second x.instant) ⊎ Memᴰ s (seconds xs) → (Memᴰ s (seconds xs) → bin s xs ≢ []) → cond v (x ∷ bin s xs) (bin s xs) ≢ []
    go true f c r = cons_ne_nil x (bin s xs)
    go false f (inl e) r = absurd (f e)
    go false f (inr n) r = r n

-- a second that holds a sample is listed
pub listed : (s : ℤ) (S : List Sample) → bin s S ≢ [] → Memᴰ s (seconds S)
unfolding seconds bin
listed s [] n = absurd (n refl)
listed s (x ∷ xs) n = go (eq_z (whole_second x.instant) s) (eq_z→eq (whole_second x.instant) s) n (listed s xs)
  where
    go : (v : Bool) → (T v → whole_second x.instant ≡ s) → cond v (x ∷ bin s xs) (bin s xs) ≢ [] → (bin s xs ≢ [] → Memᴰ s (seconds xs)) → Memᴰ s (insert (whole_second x.instant) (seconds xs))
    go true f n r = Memᴰ.cast (sym (f tt)) (inserted (whole_second x.instant) (seconds xs))
    go false f n r = kept (whole_second x.instant) s (seconds xs) (r n)

-- no other list is such: whatever rises strictly and has just the seconds that hold a sample is the list of seconds
pub seconds_are : (S : List Sample) (l : List ℤ) → Rising l → ((s : ℤ) → Memᴰ s l → bin s S ≢ []) → ((s : ℤ) → bin s S ≢ [] → Memᴰ s l) → l ≡ seconds S
seconds_are S l r f g = same_members l (seconds S) r (rising S) (λ s m. listed s S (f s m)) (λ s m. g s (held s S m))

-- ---- how many

length-insert : (s : ℤ) (l : List ℤ) → (0 < length (insert s l)) × (length (insert s l) ≤ suc (length l))
unfolding insert
length-insert s [] = omega arith
length-insert s (t ∷ ts) = go (lt_z s t) (lt_z t s) (length-insert s ts)
  where
    go : (v w : Bool) → (0 < length (insert s ts)) × (length (insert s ts) ≤ suc (length ts)) → (0 < length (cond v (s ∷ t ∷ ts) (cond w (t ∷ insert s ts) (t ∷ ts)))) × (length (cond v (s ∷ t ∷ ts) (cond w (t ∷ insert s ts) (t ∷ ts))) ≤ suc (suc (length ts)))
    go true w r = omega arith
    go false true r = omega arith
    go false false r = omega arith

-- there are as many means as seconds
pub count-means : (S : List Sample) → length (means S) ≡ length (seconds S)
unfolding means
count-means S = length-map (seconds S) (λ s. mean_of (bin s S))

-- a recording with a sample has a mean
pub some-means : (S : List Sample) → 0 < length S → 0 < length (means S)
unfolding seconds
some-means [] h = absurd (omega arith)
some-means (x ∷ xs) h = subst (λ (n : ℕ). 0 < n) (sym (count-means (x ∷ xs))) (length-insert (whole_second x.instant) (seconds xs)).0

few-seconds : (S : List Sample) → length (seconds S) ≤ length S
unfolding seconds
few-seconds [] = omega arith
few-seconds (x ∷ xs) = let r = few-seconds xs in let i = (length-insert (whole_second x.instant) (seconds xs)).1 in omega arith

-- there are at most as many means as samples
pub few-means : (S : List Sample) → length (means S) ≤ length S
few-means S = subst (λ (n : ℕ). n ≤ length S) (sym (count-means S)) (few-seconds S)

-- ---- recordings alike in every second

-- they have the same seconds
pub same-seconds : (S S' : List Sample) → Alike S S' → seconds S ≡ seconds S'
same-seconds S S' a =
    seconds_are S' (seconds S) (rising S)
    (λ s m. subst (λ (b : List Sample). b ≢ []) (a s) (held s S m))
    (λ s n. listed s S (subst (λ (b : List Sample). b ≢ []) (sym (a s)) n))

-- and the same means
pub same-means : (S S' : List Sample) → Alike S S' → means S ≡ means S'
unfolding means
same-means S S' a = ap (λ (l : List ℤ). map (λ s. mean_of (bin s S)) l) (same-seconds S S' a) ∙ ap (λ (f : ℤ → Sample). map f (seconds S')) (fun_ext (λ s. ap mean_of (a s)))

-- ---- the samples of a second in two parts of a recording

pub bin-append : (s : ℤ) (S R : List Sample) → bin s (S ++ R) ≡ bin s S ++ bin s R
unfolding bin
bin-append s [] R = refl
bin-append s (x ∷ xs) R = go (eq_z (whole_second x.instant) s) (bin-append s xs R)
  where
    go : (v : Bool) → bin s (xs ++ R) ≡ bin s xs ++ bin s R → ◌≡◌ {A = List Sample} (cond v (x ∷ bin s (xs ++ R)) (bin s (xs ++ R))) (cond v (x ∷ bin s xs) (bin s xs) ++ bin s R)
    go true e = ap {B = List Sample} (λ r. x ∷ r) e
    go false e = e
