-- The start of a window as the code works it out. Assumes nothing.
use mathlib.Core.Path.{◌≡◌}
use Prim.Native.Nat.{ℕ, ◌-◌, ◌≤◌, max, min}
use native.Mathlib.Omega.{arith}
use Rattle.std.proofs.lemmas.Bool.Decides.{nat_tests}
use Rattle.orbit.specs.Window.{start_of}

-- the larger of idx and 4, less 4, and then the smaller of that and the length less ten: the definition's start, for every idx, below the length or not
pub same-start : (idx n : ℕ) → 10 ≤ n → min (max idx 4 - 4) (n - 10) ≡ start_of idx n
same-start idx n h = grind (arith, nat_tests)
