-- A second is the nanoseconds from its first up to the next second's first, and later instants lie in later seconds or the same. Assumes nothing.
use mathlib.Core.Path.{◌≡◌, sym, ap, ◌∙◌}
use Prim.Native.Nat.{◌+◌, ◌*◌, ◌≤◌, ◌<◌}
use native.Mathlib.Omega.{arith}
use lib.Dec.{T}
use lib.IntN.{ℤ, pos, negsuc, ◌+ℤ◌, ◌*ℤ◌}
use lib.Signed.{lt_z, le_z}
use Rattle.common.proofs.Parts.{over, under, le_parts, parts_le, lt_parts, parts_lt, parts_eq, add_parts, over_times, under-times}
use Rattle.common.specs.Time.{second}
use Rattle.samples.specs.Means.{whole_second}
use Rattle.samples.specs.Sums.{second_start}

-- ---- a second's bounds, by the parts of its numbers

-- the start is at or before the instant, which is before the next start
abbrev Bounds : ℤ → Type 0
Bounds t = (over (whole_second t) * second + under t ≤ over t + under (whole_second t) * second) × (over t + under (whole_second t) * second < over (whole_second t) * second + under t + second)

pub bounds : (t : ℤ) → Bounds t
bounds (pos a) = (omega arith, omega arith)
bounds (negsuc a) = (omega arith, omega arith)

-- instants of one second, and of an earlier one
pub second_le : (t u : ℤ) → T (le_z t u) → T (le_z (whole_second t) (whole_second u))
second_le t u h = parts_le (whole_second t) (whole_second u) (omega (arith, le_parts t u h, (bounds t).0, (bounds u).1))

pub second_lt : (t u : ℤ) → T (lt_z (whole_second t) (whole_second u)) → T (lt_z t u)
second_lt t u h = parts_lt t u (omega (arith, lt_parts (whole_second t) (whole_second u) h, (bounds t).1, (bounds u).0))

-- a second's number times its length is its start
pub whole-times : (s : ℤ) → whole_second (s *ℤ pos second) ≡ s
whole-times s =
    let z = s *ℤ pos second in
    parts_eq (whole_second z) s (omega (arith, (bounds z).0, (bounds z).1, over_times s second, under-times s second))

module _ (start : ℤ) (whole : second_start start ≡ start) where
  start_parts : (over start ≡ over (whole_second start) * second) × (under start ≡ under (whole_second start) * second)
  start_parts = (ap over (sym whole) ∙ over_times (whole_second start) second, ap under (sym whole) ∙ under-times (whole_second start) second)

  -- before the start an instant lies in an earlier second
  pub before-start : (t : ℤ) → T (lt_z t start) → T (lt_z (whole_second t) (whole_second start))
  before-start t h = parts_lt (whole_second t) (whole_second start) (omega (arith, lt_parts t start h, (bounds t).0, start_parts.0, start_parts.1))

  -- from the next start on it lies in a later one
  pub past-start : (t : ℤ) → T (le_z (start +ℤ pos second) t) → T (lt_z (whole_second start) (whole_second t))
  past-start t h = parts_lt (whole_second start) (whole_second t) (omega (arith, le_parts (start +ℤ pos second) t h, add_parts start (pos second), (bounds t).1, start_parts.0, start_parts.1))

  -- between the two it lies in this second
  pub from_start : (t : ℤ) → T (le_z start t) → T (lt_z t (start +ℤ pos second)) → whole_second t ≡ whole_second start
  from_start t h k = parts_eq (whole_second t) (whole_second start) (omega (arith, le_parts start t h, lt_parts t (start +ℤ pos second) k, add_parts start (pos second), (bounds t).0, (bounds t).1, start_parts.0, start_parts.1))
