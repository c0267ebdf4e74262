-- A double that is finite is a number, so that the laws of the order of doubles speak of it, and finite in the words of the laws of operations. Assumes nothing.
use mathlib.Core.Bool.{not}
use lib.Dec.{T}
use lib.Ieee.{Float, nan, inf, fin}
use lib.Ieee.Scale.{finite}
use Rattle.float.proofs.Comparison.{number}
use Rattle.checks.specs.Checks.{not_finite}

pub finite_number : (x : Float) → T (not (not_finite x)) → T (number x)
unfolding not_finite
finite_number nan h = h
finite_number (inf s) h = tt
finite_number (fin s m e) h = tt

pub is_finite : (x : Float) → T (not (not_finite x)) → T (finite x)
unfolding not_finite
is_finite nan h = h
is_finite (inf s) h = h
is_finite (fin s m e) h = tt
