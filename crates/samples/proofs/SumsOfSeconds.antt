-- The sums over samples of one second: one sample more adds its offset, and the offsets of some samples, as the offset of their mean, stay in their range. Assumes nothing.
use mathlib.Core.Path.{◌≡◌, refl, sym, ap, ◌∙◌, subst}
use mathlib.Core.List.{List, [], ◌∷◌, ◌++◌}
use Prim.Native.Nat.{ℕ, suc, ◌+◌, ◌/◌, ◌*◌, ◌≤◌, ◌<◌}
use native.Mathlib.Numerals.{add-one}
use native.Mathlib.Omega.{arith}
use lib.IntN.{ℤ, pos, ◌+ℤ◌, ◌-ℤ◌, ◌*ℤ◌, +ℤ_idl, +ℤ_idr, +ℤ_assoc}
use lib.Signed.{quot_z}
use lib.ListN.{length, get_or, take}
use lib.Seq.{take-suc, take_all, length-take-le}
use lib.Ieee.{Float}
use mir.Syntax.{w64}
use mir.Val.{SFits}
use Rattle.common.proofs.Parts.{Within, within_parts, within-fits, over_times, under-times, add_parts, abs_parts}
use Rattle.common.specs.Numbers.{nought}
use Rattle.common.specs.Rounded.{◌⊘◌}
use Rattle.common.specs.Sums.{sum_from}
use Rattle.common.specs.Time.{microsecond}
use Rattle.float.specs.Conversions.{nearest_of}
use Rattle.checks.specs.Checked.{Samples}
use Rattle.samples.specs.Means.{Sample, whole_second, recording, frequencies, offset_sum, mean_instant, mean_frequency, mean_of}
use Rattle.samples.specs.Sums.{OneSecond, as_mean}
use Rattle.samples.proofs.Recordings.{no_sample, record_length, record_at}
use Rattle.samples.proofs.OwnSeconds.{All, all_take, farthest_apart, near-second, offsets_within, mean_within}
use Rattle.samples.proofs.Places.{at_is}

-- ---- one sample more

offsets_snoc : (base : ℤ) (xs : List Sample) (x : Sample) → offset_sum base (xs ++ x ∷ []) ≡ offset_sum base xs +ℤ quot_z (x.instant -ℤ base) (pos microsecond)
unfolding offset_sum
offsets_snoc base [] x = +ℤ_idr (quot_z (x.instant -ℤ base) (pos microsecond)) ∙ sym (+ℤ_idl (quot_z (x.instant -ℤ base) (pos microsecond)))
offsets_snoc base (y ∷ ys) x = ap (λ (z : ℤ). quot_z (y.instant -ℤ base) (pos microsecond) +ℤ z) (offsets_snoc base ys x) ∙ sym (+ℤ_assoc (quot_z (y.instant -ℤ base) (pos microsecond)) (offset_sum base ys) (quot_z (x.instant -ℤ base) (pos microsecond)))

-- ---- samples of one second

all_places : (s : ℤ) (S : List Sample) → ((k : ℕ) → k < length S → whole_second (get_or S k no_sample).instant ≡ s) → All s S
all_places s [] f = tt
all_places s (x ∷ xs) f = (f 0 (omega arith), all_places s xs (λ k h. f (suc k) (omega arith)))

-- the mean of some samples, whose first gives the base
mean_first : (S : List Sample) → 0 < length S → mean_of S ≡ record { instant = mean_instant (get_or S 0 no_sample).instant S; frequency = mean_frequency S }
unfolding mean_of
mean_first [] h = absurd (omega arith)
mean_first (x ∷ xs) h = refl

-- samples of one second that pass the checks
pub record OfSecond (ts : List ℤ) (fs : List Float) : Type 0 where
  pub recorded : Samples ts fs
  pub same : OneSecond ts

module _ (ts : List ℤ) (fs : List Float) (o : OfSecond ts fs) where
  -- the first sample's instant
  abbrev pub base : ℤ
  base = get_or ts 0 (pos 0)

  pub long : length (recording ts fs) ≡ length ts
  long = record_length ts fs o.recorded.same

  -- all lie in its second
  pub all : All (whole_second base) (recording ts fs)
  all = all_places (whole_second base) (recording ts fs) (λ k h. at_is ts fs o.recorded.same k (omega (arith, long)) ∙ o.same k (omega (arith, long)))

  -- one sample more
  pub offsets_more : (k : ℕ) → k < length ts → offset_sum base (take k (recording ts fs)) +ℤ quot_z (get_or ts k (pos 0) -ℤ base) (pos microsecond) ≡ offset_sum base (take (k + 1) (recording ts fs))
  offsets_more k h =
      let S = recording ts fs in
      let x = get_or S k no_sample in
      ap (λ (y : Sample). offset_sum base (take k S) +ℤ quot_z (y.instant -ℤ base) (pos microsecond)) (sym (record_at ts fs o.recorded.same k h no_sample))
      ∙ sym (offsets_snoc base (take k S) x)
      ∙ ap (offset_sum base) (sym (take-suc S k no_sample (omega (arith, long))))
      ∙ ap (λ (n : ℕ). offset_sum base (take n S)) (sym (add-one k))

  -- the offsets of the first k
  pub offsets_fit : (k : ℕ) → k ≤ length ts → SFits w64 (offset_sum base (take k (recording ts fs)))
  offsets_fit k h =
      let S = take k (recording ts fs) in
      let few = length-take-le k (recording ts fs) (omega (arith, long)) in
      let w = offsets_within farthest_apart farthest_apart base S (near-second base S (all_take (whole_second base) k (recording ts fs) all)) in
      let p = within_parts (farthest_apart / microsecond * length S) (farthest_apart / microsecond * length S) (offset_sum base S) w in
      within-fits (offset_sum base S) (omega (arith, few, o.recorded.few, p.0, p.1))

  -- and of all
  pub sum_fits : SFits w64 (offset_sum base (recording ts fs))
  sum_fits = subst (λ (S : List Sample). SFits w64 (offset_sum base S)) (take_all (length ts) (recording ts fs) (omega (arith, long))) (offsets_fit (length ts) (omega arith))

  -- the mean offset, in whole microseconds
  abbrev pub share : ℤ
  share = quot_z (offset_sum base (recording ts fs)) (pos (length ts))

  share_within : Within farthest_apart farthest_apart (share *ℤ pos microsecond)
  share_within =
      let S = recording ts fs in
      subst (λ (n : ℕ). Within farthest_apart farthest_apart (quot_z (offset_sum base S) (pos n) *ℤ pos microsecond)) long (mean_within farthest_apart farthest_apart base S (near-second base S all))

  pub offset_fits : SFits w64 (share *ℤ pos microsecond)
  offset_fits = within-fits (share *ℤ pos microsecond) (omega (arith, share_within.0, share_within.1))

  pub share_fits : SFits w64 share
  share_fits =
      let p = within_parts farthest_apart farthest_apart (share *ℤ pos microsecond) share_within in
      within-fits share (omega (arith, p.0, p.1, over_times share microsecond, under-times share microsecond))

  pub mean_fits : SFits w64 (base +ℤ share *ℤ pos microsecond)
  mean_fits =
      let p = within_parts farthest_apart farthest_apart (share *ℤ pos microsecond) share_within in
      within-fits (base +ℤ share *ℤ pos microsecond) (omega (arith, p.0, p.1, o.recorded.near 0, abs_parts base, add_parts base (share *ℤ pos microsecond)))

  -- the mean by the sums
  pub mean_is : as_mean (record { instant = base +ℤ share *ℤ pos microsecond; frequency = sum_from nought (frequencies (recording ts fs)) ⊘ nearest_of (pos (length ts)) }) ≡ as_mean (mean_of (recording ts fs))
  unfolding mean_instant mean_frequency
  mean_is =
      let S = recording ts fs in
      sym (ap as_mean (mean_first S (omega (arith, long, o.recorded.some)))
      ∙ ap (λ (x : Sample). as_mean (record { instant = mean_instant x.instant S; frequency = mean_frequency S })) (record_at ts fs o.recorded.same 0 o.recorded.some no_sample)
      ∙ ap (λ (n : ℕ). as_mean (record { instant = base +ℤ quot_z (offset_sum base S) (pos n) *ℤ pos microsecond; frequency = sum_from nought (frequencies S) ⊘ nearest_of (pos n) })) long)
