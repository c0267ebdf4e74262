-- What it means that a double is nearest a fraction, by whole numbers: said of any double, whatever way it was worked out.
use Rattle.std.specs.Prelude.{ℕ, ◌+◌, ◌-◌, ◌*◌, ◌^◌, ◌≤◌, T, Float}
use Rattle.std.specs.Float.{Format}
use Rattle.std.specs.Float.Ieee.{low, fits}
use Rattle.float.specs.Root.{in_units}

-- how far two numbers are apart
abbrev pub apart : ℕ → ℕ → ℕ
apart m n = (m - n) + (n - m)

-- how far a magnitude is from a / b, in steps of 1 / b of a unit, where a unit is the format's smallest value, 2 ^ -low
abbrev pub distance : Format → ℕ → ℕ → Float → ℕ
distance f a b x = apart (in_units f x * b) (a * 2 ^ low f)

-- r is a double of the format, and no other is nearer to a / b in magnitude
pub record IsNearest (f : Format) (a b : ℕ) (r : Float) : Type 0 where
  pub held : T (fits f r)
  pub none_nearer : (y : Float) → T (fits f y) → distance f a b r ≤ distance f a b y
