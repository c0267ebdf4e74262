-- Where the seconds never fall, the samples of a second stand together: a run of them that begins after earlier seconds and has ended is all of them. Assumes nothing.
use mathlib.Core.Path.{◌≡◌, refl, sym, ap, ◌∙◌, subst}
use mathlib.Core.Logic.{◌⊎◌, inl, inr}
use mathlib.Core.Bool.{Bool, true, false, not, cond}
use mathlib.Core.List.{List, [], ◌∷◌, ◌++◌, append-nil}
use Prim.Native.Nat.{ℕ, zero, suc, ◌+◌, ◌-◌, ◌≤◌, ◌<◌, min}
use native.Mathlib.Nat.{eq-or-lt_of_le}
use native.Mathlib.Numerals.{add-one}
use native.Mathlib.Omega.{arith}
use lib.Dec.{T, ltb, ltb→lt, nltb→le}
use lib.IntN.{ℤ, pos, ◌+ℤ◌}
use lib.Signed.{lt_z, ◌<ℤ◌, ◌≤ℤ◌, ≤ℤ_refl, lt_z_no}
use lib.ListN.{length, get_or, take, drop, take-append-drop, length-take, length-drop}
use lib.Seq.{drop-drop, get_or-take, get_or-drop, length-take-le}
use lib.Ieee.{Float}
use Rattle.common.proofs.Parts.{lt_apart, le_parts, lt_parts, parts_le, parts_lt, parts_eq, add_parts}
use Rattle.common.specs.Integers.{eq_z}
use Rattle.samples.specs.Means.{Sample, whole_second, bin, seconds, recording}
use Rattle.checks.specs.Checked.{Samples}
use Rattle.samples.specs.Runs.{second_at, NeverFalls, Begins, Run}
use Rattle.common.proofs.Integers.{eq_z→eq, eq→eq_z}
use Rattle.samples.proofs.Seconds.{bin-append, rising}
use Rattle.samples.proofs.Limits.{limited-take, limited-drop}
use Rattle.samples.proofs.Recordings.{no_sample, record_length, record_at, record_take, record_drop}
use Rattle.samples.proofs.OwnSeconds.{All}
use Rattle.samples.proofs.SumsOfSeconds.{OfSecond, all}
use Rattle.samples.proofs.Places.{Split, split-first, split_next, none_left, next_is}

-- seconds that never fall from one sample to the next never fall
pub never_falls-far : (ts : List ℤ) → NeverFalls ts → (j k : ℕ) → j ≤ k → k < length ts → second_at ts j ≤ℤ second_at ts k
never_falls-far ts n j zero h l = let e : 0 ≡ j = omega arith in subst (λ (m : ℕ). second_at ts j ≤ℤ second_at ts m) (sym e) (≤ℤ_refl (second_at ts j))
never_falls-far ts n j (suc k) h l = go (eq-or-lt_of_le h) (λ u. never_falls-far ts n j k (omega arith) (omega arith))
  where
    trans : (a b c : ℤ) → a ≤ℤ b → b ≤ℤ c → a ≤ℤ c
    trans a b c u v = record { le = parts_le a c (omega (arith, le_parts a b u.le, le_parts b c v.le)) }

    go : (j ≡ suc k) ⊎ (j < suc k) → (j < suc k → second_at ts j ≤ℤ second_at ts k) → second_at ts j ≤ℤ second_at ts (suc k)
    go (inl e) r = subst (λ (m : ℕ). second_at ts j ≤ℤ second_at ts m) e (≤ℤ_refl (second_at ts j))
    go (inr u) r = trans (second_at ts j) (second_at ts k) (second_at ts (suc k)) (r u) (subst (λ (m : ℕ). second_at ts k ≤ℤ second_at ts m) (add-one k) (n k (omega arith)))

-- no sample of a list lies in the second
bin_none : (s : ℤ) (S : List Sample) → ((k : ℕ) → k < length S → whole_second (get_or S k no_sample).instant ≡ s → ⊥) → bin s S ≡ []
unfolding bin
bin_none s [] h = refl
bin_none s (x ∷ xs) h = go (eq_z (whole_second x.instant) s) (eq_z→eq (whole_second x.instant) s) (bin_none s xs (λ k u. h (suc k) (omega arith)))
  where
    go : (v : Bool) → (T v → whole_second x.instant ≡ s) → bin s xs ≡ [] → cond v (x ∷ bin s xs) (bin s xs) ≡ []
    go true f r = absurd (h 0 (omega arith) (f tt))
    go false f r = r

-- a part of two slices that pass the checks
recorded_part : (ts : List ℤ) (fs : List Float) (n m : ℕ) → Samples ts fs → 0 < length (take m (drop n ts)) → Samples (take m (drop n ts)) (take m (drop n fs))
recorded_part ts fs n m r h =
    record {
      some = h;
      same = length-take m (drop n fs) ∙ ap (λ (k : ℕ). min m k) (length-drop n fs ∙ ap (λ (k : ℕ). k - n) r.same ∙ sym (length-drop n ts)) ∙ sym (length-take m (drop n ts));
      few = omega (arith, r.few, length-take m (drop n ts), length-drop n ts);
      near = limited-take m (drop n ts) (limited-drop n ts r.near);
    }

-- at most and not the same
strict : (a b : ℤ) → a ≤ℤ b → (b ≡ a → ⊥) → a <ℤ b
strict a b h n = go (lt_z a b) (λ t. t) (λ t. parts_eq b a (omega (arith, le_parts a b h.le, le_parts b a (lt_z_no {a = a} {b = b} t).le)))
  where
    go : (v : Bool) → (T v → T (lt_z a b)) → (T (not v) → b ≡ a) → a <ℤ b
    go true f g = record { lt = f tt }
    go false f g = absurd (n (g tt))

module _ (ts : List ℤ) (fs : List Float) (e : length fs ≡ length ts) (n : NeverFalls ts) (from end : ℕ) (b : Begins ts from) (r : Run ts from end) where
  -- the sample after the run is of a later second
  pub later_second : end < length ts → second_at ts from <ℤ second_at ts end
  later_second h = strict (second_at ts from) (second_at ts end) (never_falls-far ts n from end (omega (arith, r.later)) h) (r.ended h)

  -- and so are all after it
  pub later-seconds : (k : ℕ) → end ≤ k → k < length ts → second_at ts from <ℤ second_at ts k
  later-seconds k h l =
      let u = later_second (omega arith) in
      let v = never_falls-far ts n end k h l in
      record { lt = parts_lt (second_at ts from) (second_at ts k) (omega (arith, lt_parts (second_at ts from) (second_at ts end) u.lt, le_parts (second_at ts end) (second_at ts k) v.le)) }

  -- those up to its end are not
  pub no_later : (k : ℕ) → k < end → second_at ts k ≤ℤ second_at ts from
  no_later k h = go (ltb k from) (ltb→lt k from) (nltb→le k from)
    where
      go : (v : Bool) → (T v → k < from) → (T (not v) → from ≤ k) → second_at ts k ≤ℤ second_at ts from
      go true f g = record { le = parts_le (second_at ts k) (second_at ts from) (omega (arith, lt_parts (second_at ts k) (second_at ts from) (b k (f tt)).lt)) }
      go false f g = subst (λ (z : ℤ). z ≤ℤ second_at ts from) (sym (r.same k (g tt) h)) (≤ℤ_refl (second_at ts from))

  before_none : bin (second_at ts from) (take from (recording ts fs)) ≡ []
  before_none =
      bin_none (second_at ts from) (take from (recording ts fs))
      (λ k h q.
      let u : k < from = omega (arith, length-take from (recording ts fs)) in
      let l : k < length ts = omega (arith, r.later, r.inside) in
      lt_apart (second_at ts k) (second_at ts from) (b k u).lt (sym (ap (λ (x : Sample). whole_second x.instant) (get_or-take from (recording ts fs) k no_sample u ∙ record_at ts fs e k l no_sample)) ∙ q))

  after_none : bin (second_at ts from) (drop end (recording ts fs)) ≡ []
  after_none =
      bin_none (second_at ts from) (drop end (recording ts fs))
      (λ k h q.
      let l : end + k < length ts = omega (arith, length-drop end (recording ts fs), record_length ts fs e) in
      lt_apart (second_at ts from) (second_at ts (end + k)) (later-seconds (end + k) (omega arith) l).lt (sym q ∙ ap (λ (x : Sample). whole_second x.instant) (get_or-drop end (recording ts fs) k no_sample ∙ record_at ts fs e (end + k) l no_sample)))

  -- the run is all of its second
  run_bin : bin (second_at ts from) (recording (take (end - from) (drop from ts)) (take (end - from) (drop from fs))) ≡ bin (second_at ts from) (recording ts fs)
  run_bin =
      let S = recording ts fs in
      let m = end - from in
      let q : from + m ≡ end = omega (arith, r.later) in
      let part : recording (take m (drop from ts)) (take m (drop from fs)) ≡ take m (drop from S) = record_take m (drop from ts) (drop from fs) ∙ ap (take m) (record_drop from ts fs) in
      let rest : bin (second_at ts from) (drop m (drop from S)) ≡ [] = ap (bin (second_at ts from)) (drop-drop m from S ∙ ap (λ (k : ℕ). drop k S) q) ∙ after_none in
      let tail : bin (second_at ts from) (drop from S) ≡ bin (second_at ts from) (take m (drop from S)) =
      ap (bin (second_at ts from)) (sym (take-append-drop m (drop from S)))
      ∙ bin-append (second_at ts from) (take m (drop from S)) (drop m (drop from S))
      ∙ ap (λ (l : List Sample). bin (second_at ts from) (take m (drop from S)) ++ l) rest
      ∙ append-nil (bin (second_at ts from) (take m (drop from S))) in
      ap (bin (second_at ts from)) part
      ∙ sym tail
      ∙ ap (λ (l : List Sample). l ++ bin (second_at ts from) (drop from S)) (sym before_none)
      ∙ sym (bin-append (second_at ts from) (take from S) (drop from S))
      ∙ ap (bin (second_at ts from)) (take-append-drop from S)

-- samples that are all of one second are its bin
bin_all : (s : ℤ) (S : List Sample) → All s S → bin s S ≡ S
unfolding bin
bin_all s [] a = refl
bin_all s (x ∷ xs) a = go (eq_z (whole_second x.instant) s) (eq→eq_z (whole_second x.instant) s a.0) (bin_all s xs a.1)
  where
    go : (v : Bool) → T v → bin s xs ≡ xs → cond v (x ∷ bin s xs) (bin s xs) ≡ (x ∷ xs)
    go true h e = ap {B = List Sample} (λ (l : List Sample). x ∷ l) e
    go false h e = absurd h

module _ (ts : List ℤ) (fs : List Float) (recorded : Samples ts fs) (n : NeverFalls ts) (from end : ℕ) (b : Begins ts from) (r : Run ts from end) where
  -- the run's second, by its places in the run
  run_second : (k : ℕ) → k < end - from → second_at (take (end - from) (drop from ts)) k ≡ second_at ts from
  run_second k h = ap whole_second (get_or-take (end - from) (drop from ts) k (pos 0) h ∙ get_or-drop from ts k (pos 0)) ∙ r.same (from + k) (omega arith) (omega arith)

  run_length : length (take (end - from) (drop from ts)) ≡ end - from
  run_length = length-take-le (end - from) (drop from ts) (omega (arith, length-drop from ts, r.inside))

  -- its samples are of one second
  pub run_one : OfSecond (take (end - from) (drop from ts)) (take (end - from) (drop from fs))
  run_one =
      record {
        recorded = recorded_part ts fs from (end - from) recorded (omega (arith, run_length, r.later));
        same = λ k h. run_second k (omega (arith, run_length)) ∙ sym (run_second 0 (omega (arith, r.later)));
      }

  -- and they are all of that second
  pub run_is_bin : recording (take (end - from) (drop from ts)) (take (end - from) (drop from fs)) ≡ bin (second_at ts from) (recording ts fs)
  run_is_bin =
      let us = take (end - from) (drop from ts) in
      let gs = take (end - from) (drop from fs) in
      sym (bin_all (second_at ts from) (recording us gs) (subst (λ (z : ℤ). All z (recording us gs)) (run_second 0 (omega (arith, r.later))) (all us gs run_one)))
      ∙ run_bin ts fs recorded.same n from end b r

-- ---- the next run's second stands next among the seconds

abbrev pub Stands : List ℤ → List Float → ℕ → ℕ → Type 0
Stands ts fs from c =
    (from < length ts → (c < length (seconds (recording ts fs))) × (get_or (seconds (recording ts fs)) c (pos 0) ≡ second_at ts from) × Begins ts from)
    × (length ts ≤ from → c ≡ length (seconds (recording ts fs)))

-- at the start
pub stands_first : (ts : List ℤ) (fs : List Float) → length fs ≡ length ts → NeverFalls ts → Stands ts fs 0 0
stands_first ts fs e n = (λ h. start h (split h), λ h. none_left ts fs e (pos 0) 0 (split-first ts fs e (pos 0) (λ k u. absurd (omega arith))) (λ k u. absurd (omega arith)))
  where
    first : (k : ℕ) → k < length ts → second_at ts 0 ≤ℤ second_at ts k
    first k u = never_falls-far ts n 0 k (omega arith) u

    split : 0 < length ts → Split (seconds (recording ts fs)) (second_at ts 0) 0
    split h = split-first ts fs e (second_at ts 0) first

    start : 0 < length ts → Split (seconds (recording ts fs)) (second_at ts 0) 0 → (0 < length (seconds (recording ts fs))) × (get_or (seconds (recording ts fs)) 0 (pos 0) ≡ second_at ts 0) × Begins ts 0
    start h sp = let p = next_is ts fs e (second_at ts 0) 0 sp 0 h (≤ℤ_refl (second_at ts 0)) (λ j u v. v) in (p.0, p.1, λ k u. absurd (omega arith))

-- after a run
module _ (ts : List ℤ) (fs : List Float) (e : length fs ≡ length ts) (n : NeverFalls ts) (from end c : ℕ) (h : c < length (seconds (recording ts fs))) (q : get_or (seconds (recording ts fs)) c (pos 0) ≡ second_at ts from) (b : Begins ts from) (r : Run ts from end) where
  split : Split (seconds (recording ts fs)) (second_at ts from +ℤ pos 1) (c + 1)
  split = subst (λ (z : ℤ). Split (seconds (recording ts fs)) (z +ℤ pos 1) (c + 1)) q (split_next (seconds (recording ts fs)) (rising (recording ts fs)) c h)

  passed : (k : ℕ) → k < end → (second_at ts from +ℤ pos 1) ≤ℤ second_at ts k → ⊥
  passed k u v = omega (arith, add_parts (second_at ts from) (pos 1), le_parts (second_at ts from +ℤ pos 1) (second_at ts k) v.le, le_parts (second_at ts k) (second_at ts from) (no_later ts fs e n from end b r k u).le)

  least : end < length ts → (j : ℕ) → j < length ts → (second_at ts from +ℤ pos 1) ≤ℤ second_at ts j → second_at ts end ≤ℤ second_at ts j
  least u j v w = go (ltb j end) (ltb→lt j end) (nltb→le j end)
    where
      go : (v : Bool) → (T v → j < end) → (T (not v) → end ≤ j) → second_at ts end ≤ℤ second_at ts j
      go true f g = absurd (passed j (f tt) w)
      go false f g = never_falls-far ts n end j (g tt) v

  begins : end < length ts → Begins ts end
  begins u k v = record { lt = parts_lt (second_at ts k) (second_at ts end) (omega (arith, le_parts (second_at ts k) (second_at ts from) (no_later ts fs e n from end b r k v).le, lt_parts (second_at ts from) (second_at ts end) (later_second ts fs e n from end b r u).lt)) }

  above : end < length ts → (second_at ts from +ℤ pos 1) ≤ℤ second_at ts end
  above u = record { le = parts_le (second_at ts from +ℤ pos 1) (second_at ts end) (omega (arith, add_parts (second_at ts from) (pos 1), lt_parts (second_at ts from) (second_at ts end) (later_second ts fs e n from end b r u).lt)) }

  pub stands_next : Stands ts fs end (c + 1)
  stands_next = (
    λ u. let p = next_is ts fs e (second_at ts from +ℤ pos 1) (c + 1) split end u (above u) (least u) in (p.0, p.1, begins u),
    λ u. none_left ts fs e (second_at ts from +ℤ pos 1) (c + 1) split (λ k l w. passed k (omega arith) w),
  )
