-- The test whether two whole numbers are the same says that they are equal, which is that neither is below the other. Assumes nothing.
use mathlib.Core.Path.{◌≡◌, ap, subst}
use mathlib.Core.Bool.{true, false}
use lib.Dec.{T, eqb→eq, eqb_refl}
use lib.IntN.{ℤ, pos, negsuc}
use lib.Signed.{lt_z}
use Rattle.common.specs.Integers.{eq_z}
use Rattle.common.proofs.Tests.{holds, fails, same_test}
use Rattle.common.proofs.Parts.{lt_apart, neither_lt}

pub eq_z→eq : (a b : ℤ) → T (eq_z a b) → a ≡ b
eq_z→eq (pos a) (pos b) h = ap pos (eqb→eq a b h)
eq_z→eq (pos a) (negsuc b) h = absurd h
eq_z→eq (negsuc a) (pos b) h = absurd h
eq_z→eq (negsuc a) (negsuc b) h = ap negsuc (eqb→eq a b h)

pub eq_z_refl : (a : ℤ) → T (eq_z a a)
eq_z_refl (pos a) = eqb_refl a
eq_z_refl (negsuc a) = eqb_refl a

pub eq→eq_z : (a b : ℤ) → a ≡ b → T (eq_z a b)
eq→eq_z a b e = subst (λ (z : ℤ). T (eq_z a z)) e (eq_z_refl a)

-- where neither is below the other
pub eq_z_neither : (a b : ℤ) → lt_z a b ≡ false → lt_z b a ≡ false → eq_z a b ≡ true
eq_z_neither a b h k = same_test (eq_z a b) true (λ t. tt) (λ t. eq→eq_z a b (neither_lt a b (fails h) (fails k)))

-- and where one is
pub eq_z_below : (a b : ℤ) → lt_z a b ≡ true → eq_z a b ≡ false
eq_z_below a b h = same_test (eq_z a b) false (λ t. lt_apart a b (holds h) (eq_z→eq a b t)) absurd
