-- Whole numbers.
use Rattle.std.specs.Prelude.{Bool, false, eqb, ℤ, pos, negsuc}

-- whether two whole numbers are the same
abbrev pub eq_z : ℤ → ℤ → Bool
eq_z (pos a) (pos b) = eqb a b
eq_z (pos a) (negsuc b) = false
eq_z (negsuc a) (pos b) = false
eq_z (negsuc a) (negsuc b) = eqb a b
