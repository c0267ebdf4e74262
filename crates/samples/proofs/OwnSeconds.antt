-- Offsets cut toward zero, and their mean cut toward zero, lie between the least and the greatest offset; so a mean lies between the earliest and the latest of its samples, and in their second. Assumes nothing.
use mathlib.Core.Path.{◌≡◌, refl, sym, ◌∙◌, ap, subst}
use mathlib.Core.Logic.{◌≢◌, ◌⊎◌, inl, inr}
use mathlib.Core.Bool.{Bool, true, false, cond}
use mathlib.Core.List.{List, [], ◌∷◌, map, Memᴰ}
use Prim.Native.Nat.{ℕ, zero, suc, ◌+◌, ◌-◌, ◌*◌, ◌/◌, ◌≤◌}
use native.Mathlib.Nat.{mul-suc, mul_comm, div-le_of_le-mul}
use native.Mathlib.Omega.{arith}
use lib.Dec.{T}
use lib.IntN.{ℤ, pos, neg_ℤ, nat_abs, ◌+ℤ◌, ◌-ℤ◌, ◌*ℤ◌}
use lib.Signed.{quot_z, ◌≤ℤ◌}
use lib.ListN.{length, take}
use Rattle.common.proofs.Parts.{over, under, Within, le_parts, parts_le, parts_lt, add_parts, minus_parts, over_quot, under_quot, over_times, under-times, within_parts, abs_parts, one_sided}
use Rattle.checks.specs.Limits.{farthest_instant}
use Rattle.common.specs.Time.{second, microsecond}
use Rattle.common.specs.Integers.{eq_z}
use Rattle.samples.specs.Means.{Sample, whole_second, bin, seconds, offset_sum, mean_instant, mean_of, means, instants, Under, Rising}
use Rattle.samples.specs.Runs.{Limited}
use Rattle.common.proofs.Integers.{eq_z→eq}
use Rattle.samples.proofs.Starts.{bounds, second_lt, whole-times, from_start}
use Rattle.samples.proofs.Seconds.{rising, held}

-- each sample of the list lies from a to b
abbrev pub Spans : ℤ → ℤ → List Sample → Type 0
Spans a b [] = Unit {0}
Spans a b (x ∷ xs) = (a ≤ℤ x.instant) × (x.instant ≤ℤ b) × Spans a b xs

-- ---- offsets from a base that is lo after a and hi before b

abbrev below : ℤ → ℤ → ℕ
below a base = over base + under a - (over a + under base)

module _ (lo hi : ℕ) (base : ℤ) where
  -- each instant of the list is at most lo before the base and at most hi after it
  abbrev Near : List Sample → Type 0
  Near [] = Unit {0}
  Near (x ∷ xs) = Within lo hi (x.instant -ℤ base) × Near xs

  pub offsets_within : (xs : List Sample) → Near xs → Within (lo / microsecond * length xs) (hi / microsecond * length xs) (offset_sum base xs)
  unfolding offset_sum
  offsets_within [] n = omega arith
  offsets_within (x ∷ xs) n =
      let d = x.instant -ℤ base in
      let q = quot_z d (pos microsecond) in
      let p = within_parts lo hi d n.0 in
      let r = offsets_within xs n.1 in
      omega (arith, p.0, p.1, r.0, r.1, over_quot d microsecond, under_quot d microsecond, add_parts q (offset_sum base xs), mul-suc (lo / microsecond) (length xs), mul-suc (hi / microsecond) (length xs))

  -- the offset of the mean
  pub mean_within : (xs : List Sample) → Near xs → Within lo hi (quot_z (offset_sum base xs) (pos (length xs)) *ℤ pos microsecond)
  mean_within xs n =
      let o = offset_sum base xs in
      let q = quot_z o (pos (length xs)) in
      let w = offsets_within xs n in
      let p = within_parts (lo / microsecond * length xs) (hi / microsecond * length xs) o w in
      let h : over o / length xs ≤ hi / microsecond = div-le_of_le-mul (length xs) (subst (λ (k : ℕ). over o ≤ k) (mul_comm (hi / microsecond) (length xs)) p.0) in
      let l : under o / length xs ≤ lo / microsecond = div-le_of_le-mul (length xs) (subst (λ (k : ℕ). under o ≤ k) (mul_comm (lo / microsecond) (length xs)) p.1) in
      omega (arith, over_quot o (length xs), under_quot o (length xs), over_times q microsecond, under-times q microsecond)

near_spans : (a b base : ℤ) → a ≤ℤ base → base ≤ℤ b → (xs : List Sample) → Spans a b xs → Near (below a base) (below base b) base xs
near_spans a b base h k [] s = tt
near_spans a b base h k (x ∷ xs) s =
    let f = le_parts a base h.le in
    let g = le_parts base b k.le in
    let m = minus_parts x.instant base in
    (omega (arith, le_parts a x.instant s.0.le, le_parts x.instant b s.1.le), near_spans a b base h k xs s.2)

mean_spans : (a b base : ℤ) → a ≤ℤ base → base ≤ℤ b → (xs : List Sample) → Spans a b xs → (a ≤ℤ mean_instant base xs) × (mean_instant base xs ≤ℤ b)
unfolding mean_instant
mean_spans a b base h k xs s =
    let z = quot_z (offset_sum base xs) (pos (length xs)) *ℤ pos microsecond in
    let f = le_parts a base h.le in
    let g = le_parts base b k.le in
    let w = mean_within (below a base) (below base b) base xs (near_spans a b base h k xs s) in
    let p = add_parts base z in
    (record { le = parts_le a (base +ℤ z) (omega arith) }, record { le = parts_le (base +ℤ z) b (omega arith) })

-- the mean of some samples lies between their earliest, a, and their latest, b
pub mean_between : (a b : ℤ) (xs : List Sample) → xs ≢ [] → Spans a b xs → (a ≤ℤ (mean_of xs).instant) × ((mean_of xs).instant ≤ℤ b)
unfolding mean_of
mean_between a b [] n s = absurd (n refl)
mean_between a b (x ∷ xs) n s = mean_spans a b x.instant s.0 s.1 (x ∷ xs) s

-- ---- the samples of one second

-- each sample of the list lies in the second s
abbrev pub All : ℤ → List Sample → Type 0
All s [] = Unit {0}
All s (x ∷ xs) = (whole_second x.instant ≡ s) × All s xs

-- as the first k of such a list do
pub all_take : (s : ℤ) (k : ℕ) (S : List Sample) → All s S → All s (take k S)
all_take s zero S a = tt
all_take s (suc k) [] a = tt
all_take s (suc k) (x ∷ xs) a = (a.0, all_take s k xs a.1)

-- as those of its bin do
all_in_bin : (s : ℤ) (S : List Sample) → All s (bin s S)
unfolding bin
all_in_bin s [] = tt
all_in_bin s (x ∷ xs) = go (eq_z (whole_second x.instant) s) (eq_z→eq (whole_second x.instant) s) (all_in_bin s xs)
  where
    go : (v : Bool) → (T v → whole_second x.instant ≡ s) → All s (bin s xs) → All s (cond v (x ∷ bin s xs) (bin s xs))
    go true f r = (f tt, r)
    go false f r = r

-- two instants of one second are at most this far apart, in nanoseconds
abbrev pub farthest_apart : ℕ
farthest_apart = second - 1

second-apart : (t base : ℤ) → whole_second t ≡ whole_second base → Within farthest_apart farthest_apart (t -ℤ base)
second-apart t base e = omega (arith, ap over e, ap under e, (bounds t).0, (bounds t).1, (bounds base).0, (bounds base).1, minus_parts t base)

pub near-second : (base : ℤ) (xs : List Sample) → All (whole_second base) xs → Near farthest_apart farthest_apart base xs
near-second base [] a = tt
near-second base (x ∷ xs) a = (second-apart x.instant base a.0, near-second base xs a.1)

spans_second : (s : ℤ) (xs : List Sample) → All s xs → Spans (s *ℤ pos second) (s *ℤ pos second +ℤ pos farthest_apart) xs
spans_second s [] a = tt
spans_second s (x ∷ xs) a =
    let t = x.instant in
    let u = s *ℤ pos second in
    let o : over (whole_second t) ≡ over s = ap over a.0 in
    let n : under (whole_second t) ≡ under s = ap under a.0 in
    let p = over_times s second in
    let q = under-times s second in
    let b = bounds t in (
      record { le = parts_le u t (omega arith) },
      record { le = parts_le t (u +ℤ pos farthest_apart) (omega (arith, add_parts u (pos farthest_apart))) },
      spans_second s xs a.1,
    )

-- the mean of some samples of one second lies in that second
mean_second : (s : ℤ) (xs : List Sample) → xs ≢ [] → All s xs → whole_second (mean_of xs).instant ≡ s
mean_second s xs n a =
    let u = s *ℤ pos second in
    let m = (mean_of xs).instant in
    let b = mean_between u (u +ℤ pos farthest_apart) xs n (spans_second s xs a) in
    let l = le_parts m (u +ℤ pos farthest_apart) b.1.le in
    from_start u (ap (λ (z : ℤ). z *ℤ pos second) (whole-times s)) m b.0.le (parts_lt m (u +ℤ pos second) (omega (arith, add_parts u (pos farthest_apart), add_parts u (pos second)))) ∙ whole-times s

-- the mean of each second that holds a sample lies in that second
pub own-second : (s : ℤ) (S : List Sample) → bin s S ≢ [] → whole_second (mean_of (bin s S)).instant ≡ s
own-second s S n = mean_second s (bin s S) n (all_in_bin s S)

-- so the seconds of the means are the seconds of the samples
pub own-seconds : (S : List Sample) → map (λ m. whole_second m.instant) (means S) ≡ seconds S
unfolding means
own-seconds S = go (seconds S) (λ s m. held s S m)
  where
    go : (l : List ℤ) → ((s : ℤ) → Memᴰ s l → bin s S ≢ []) → map (λ m. whole_second m.instant) (map (λ s. mean_of (bin s S)) l) ≡ l
    go [] f = refl
    go (s ∷ l) f = let e : whole_second (mean_of (bin s S)).instant ≡ s = own-second s S (f s (Memᴰ.head refl)) in let r : map (λ m. whole_second m.instant) (map (λ s. mean_of (bin s S)) l) ≡ l = go l (λ t m. f t (Memᴰ.tail m)) in cc

rises : (l : List Sample) → Rising (map (λ m. whole_second m.instant) l) → Rising (instants l)
rises [] r = tt
rises (x ∷ xs) r = (under_all xs r.0, rises xs r.1)
  where
    under_all : (l : List Sample) → Under (whole_second x.instant) (map (λ m. whole_second m.instant) l) → Under x.instant (instants l)
    under_all [] u = tt
    under_all (y ∷ ys) u = (record { lt = second_lt x.instant y.instant u.0.lt }, under_all ys u.1)

-- the means' instants rise strictly
pub means-rise : (S : List Sample) → Rising (instants (means S))
means-rise S = rises (means S) (subst Rising (sym (own-seconds S)) (rising S))

-- ---- check 4

-- the limit's two sides
abbrev earliest : ℤ
earliest = neg_ℤ (pos farthest_instant)

abbrev latest : ℤ
latest = pos farthest_instant

limit_spans : (xs : List Sample) → Limited (instants xs) → Spans earliest latest xs
limit_spans [] h = tt
limit_spans (x ∷ xs) h =
    let t = x.instant in
    let m = h 0 in
    let a = abs_parts t in (
      record { le = parts_le earliest t (omega arith) },
      record { le = parts_le t latest (omega arith) },
      limit_spans xs (λ k. h (suc k)),
    )

spans_limit : (t : ℤ) → earliest ≤ℤ t → t ≤ℤ latest → nat_abs t ≤ farthest_instant
spans_limit t h k = go (one_sided t)
  where
    go : (over t ≡ 0) ⊎ (under t ≡ 0) → nat_abs t ≤ farthest_instant
    go (inl e) = omega (arith, abs_parts t, le_parts earliest t h.le)
    go (inr e) = omega (arith, abs_parts t, le_parts t latest k.le)

spans_bin : (a b s : ℤ) (S : List Sample) → Spans a b S → Spans a b (bin s S)
unfolding bin
spans_bin a b s [] h = tt
spans_bin a b s (x ∷ xs) h = go (eq_z (whole_second x.instant) s) (spans_bin a b s xs h.2)
  where
    go : (v : Bool) → Spans a b (bin s xs) → Spans a b (cond v (x ∷ bin s xs) (bin s xs))
    go true r = (h.0, h.1, r)
    go false r = r

-- samples that pass check 4 have means that pass it
pub limited-means : (S : List Sample) → Limited (instants S) → Limited (instants (means S))
unfolding means
limited-means S h = go (seconds S) (λ s m. held s S m)
  where
    go : (l : List ℤ) → ((s : ℤ) → Memᴰ s l → bin s S ≢ []) → Limited (instants (map (λ s. mean_of (bin s S)) l))
    go [] f k = omega arith
    go (s ∷ l) f zero = let b = mean_between earliest latest (bin s S) (f s (Memᴰ.head refl)) (spans_bin earliest latest s S (limit_spans S h)) in spans_limit (mean_of (bin s S)).instant b.0 b.1
    go (s ∷ l) f (suc k) = go l (λ t m. f t (Memᴰ.tail m)) k
