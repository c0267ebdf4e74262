-- Inner: runs of samples of one second, and seconds that never fall, by the places of the samples; and the limit of check 4 on instants.
use Rattle.std.specs.Prelude.{ℕ, ◌+◌, ◌≤◌, ◌<◌, ◌≡◌, List, ℤ, pos, nat_abs, ◌<ℤ◌, ◌≤ℤ◌, length, get_or}
use Rattle.checks.specs.Limits.{farthest_instant}
use Rattle.samples.specs.Means.{whole_second}

-- each instant is within the limit of check 4
abbrev pub Limited : List ℤ → Type 0
Limited ts = (k : ℕ) → nat_abs (get_or ts k (pos 0)) ≤ farthest_instant

-- an instant that passes check 4 lies within this even after it is moved by some hours: 10 ^ 17 nanoseconds more
abbrev pub farthest_moved : ℕ
farthest_moved = farthest_instant + 100000000000000000

-- the second of sample k
abbrev pub second_at : List ℤ → ℕ → ℤ
second_at ts k = whole_second (get_or ts k (pos 0))

-- no sample's second is before that of the sample ahead of it
abbrev pub NeverFalls : List ℤ → Type 0
NeverFalls ts = (k : ℕ) → k + 1 < length ts → second_at ts k ≤ℤ second_at ts (k + 1)

-- every sample ahead of sample from is of an earlier second
abbrev pub Begins : List ℤ → ℕ → Type 0
Begins ts from = (k : ℕ) → k < from → second_at ts k <ℤ second_at ts from

-- the samples from one place up to another are those of one second that stand together there
pub record Run (ts : List ℤ) (from end : ℕ) : Type 0 where
  pub later : from < end
  pub inside : end ≤ length ts
  pub same : (k : ℕ) → from ≤ k → k < end → second_at ts k ≡ second_at ts from
  pub ended : end < length ts → second_at ts end ≡ second_at ts from → ⊥
