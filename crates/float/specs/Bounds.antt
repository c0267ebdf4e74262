-- Inner: the doubles up to a whole number in magnitude, and those from one on, for what inner functions ask of a number.
use Rattle.std.specs.Prelude.{ℕ, ◌*◌, ◌≤◌, Float}
use Rattle.std.specs.Float.{nan, inf, fin}
use Rattle.std.specs.Float.Ieee.{up, down}

-- x is finite and its magnitude is at most n: m * 2 ^ e ≤ n
abbrev pub Within : ℕ → Float → Type 0
Within n nan = ⊥
Within n (inf s) = ⊥
Within n (fin s m e) = m * up e ≤ n * down e

-- x is finite and its magnitude is at least n
abbrev pub AtLeast : ℕ → Float → Type 0
AtLeast n nan = ⊥
AtLeast n (inf s) = ⊥
AtLeast n (fin s m e) = n * down e ≤ m * up e
