-- A whole number as its part above zero less its part below zero: orders, sums, differences, products and quotients of whole numbers become sums of natural numbers, which `omega` reads.
-- And a whole number as the machine holds it. Assumes nothing.
use mathlib.Core.Path.{◌≡◌, refl, sym, ap, ◌∙◌, subst}
use mathlib.Core.Logic.{◌⊎◌, inl, inr}
use mathlib.Core.Bool.{Bool, true, false, not, cond, false≢true}
use Prim.Native.Nat.{ℕ, zero, suc, ◌+◌, ◌-◌, ◌*◌, ◌/◌, ◌≤◌, ◌<◌}
use native.Mathlib.Omega.{arith}
use lib.Dec.{T, ltb, ltb→lt, lt→ltb, leb→le, le→leb, nltb→le, leb-suc-suc}
use lib.IntN.{ℤ, pos, negsuc, neg_ℤ, nat_abs, sub_ℕ, ◌+ℤ◌, ◌-ℤ◌, ◌*ℤ◌}
use lib.Signed.{lt_z, le_z, quot_z, lt_z_no}
use mir.Syntax.{w64}
use mir.Val.{SFits, to_z, of_z}
use mir.ValLaws.{to_z-of_z}

-- the part above zero
abbrev pub over : ℤ → ℕ
over (pos n) = n
over (negsuc n) = 0

-- the part below zero, as a magnitude
abbrev pub under : ℤ → ℕ
under (pos n) = 0
under (negsuc n) = suc n

-- ---- the order

pub le_parts : (a b : ℤ) → T (le_z a b) → over a + under b ≤ over b + under a
le_parts (pos a) (pos b) h = omega (arith, leb→le a b h)
le_parts (pos a) (negsuc b) h = absurd h
le_parts (negsuc a) (pos b) h = omega arith
le_parts (negsuc a) (negsuc b) h = omega (arith, leb→le b a h)

pub parts_le : (a b : ℤ) → over a + under b ≤ over b + under a → T (le_z a b)
parts_le (pos a) (pos b) h = le→leb a b (omega arith)
parts_le (pos a) (negsuc b) h = absurd (omega arith)
parts_le (negsuc a) (pos b) h = tt
parts_le (negsuc a) (negsuc b) h = le→leb b a (omega arith)

pub lt_parts : (a b : ℤ) → T (lt_z a b) → over a + under b < over b + under a
lt_parts (pos a) (pos b) h = omega (arith, ltb→lt a b h)
lt_parts (pos a) (negsuc b) h = absurd h
lt_parts (negsuc a) (pos b) h = omega arith
lt_parts (negsuc a) (negsuc b) h = omega (arith, ltb→lt b a h)

pub parts_lt : (a b : ℤ) → over a + under b < over b + under a → T (lt_z a b)
parts_lt (pos a) (pos b) h = lt→ltb a b (omega arith)
parts_lt (pos a) (negsuc b) h = absurd (omega arith)
parts_lt (negsuc a) (pos b) h = tt
parts_lt (negsuc a) (negsuc b) h = lt→ltb b a (omega arith)

pub parts_eq : (a b : ℤ) → over a + under b ≡ over b + under a → a ≡ b
parts_eq (pos a) (pos b) h = ap pos (omega arith)
parts_eq (pos a) (negsuc b) h = absurd (omega arith)
parts_eq (negsuc a) (pos b) h = absurd (omega arith)
parts_eq (negsuc a) (negsuc b) h = ap negsuc (omega arith)

-- of two numbers in order the first is not the second
pub lt_apart : (a b : ℤ) → T (lt_z a b) → a ≡ b → ⊥
lt_apart a b h e = omega (arith, lt_parts a b h, ap over e, ap under e)

-- what is below one that is below another is below that
pub lt_through : (a b c : ℤ) → T (lt_z a b) → T (lt_z b c) → T (lt_z a c)
lt_through a b c h k = parts_lt a c (omega (arith, lt_parts a b h, lt_parts b c k))

-- two numbers of which neither is below the other are equal
pub neither_lt : (a b : ℤ) → T (not (lt_z a b)) → T (not (lt_z b a)) → a ≡ b
neither_lt a b h k = parts_eq a b (omega (arith, le_parts b a (lt_z_no {a = a} {b = b} h).le, le_parts a b (lt_z_no {a = b} {b = a} k).le))

-- ---- sums and differences

by_cases : (v : Bool) (x y : ℤ) (P : ℤ → Type 0) → (T v → P x) → (T (not v) → P y) → P (cond v x y)
by_cases true x y P f g = f tt
by_cases false x y P f g = g tt

sub_parts : (a b : ℕ) → over (sub_ℕ a b) + b ≡ a + under (sub_ℕ a b)
sub_parts a b = by_cases (ltb a b) (negsuc (b - suc a)) (pos (a - b)) (λ z. over z + b ≡ a + under z) (λ t. omega (arith, ltb→lt a b t)) (λ t. omega (arith, nltb→le a b t))

pub add_parts : (a b : ℤ) → over (a +ℤ b) + (under a + under b) ≡ over a + over b + under (a +ℤ b)
add_parts (pos a) (pos b) = omega arith
add_parts (pos a) (negsuc b) = omega (arith, sub_parts a (suc b))
add_parts (negsuc a) (pos b) = omega (arith, sub_parts b (suc a))
add_parts (negsuc a) (negsuc b) = omega arith

-- the sum of a number below zero and one at least as far above it
pub raised : (a n : ℕ) → suc a ≤ n → negsuc a +ℤ pos n ≡ pos (n - suc a)
raised a n h = parts_eq (negsuc a +ℤ pos n) (pos (n - suc a)) (omega (arith, add_parts (negsuc a) (pos n)))

over_neg : (a : ℤ) → over (neg_ℤ a) ≡ under a
over_neg (pos zero) = refl
over_neg (pos (suc n)) = refl
over_neg (negsuc n) = refl

under_neg : (a : ℤ) → under (neg_ℤ a) ≡ over a
under_neg (pos zero) = refl
under_neg (pos (suc n)) = refl
under_neg (negsuc n) = refl

pub minus_parts : (a b : ℤ) → over (a -ℤ b) + (under a + over b) ≡ over a + under b + under (a -ℤ b)
minus_parts a b = omega (arith, add_parts a (neg_ℤ b), over_neg b, under_neg b)

-- ---- products and quotients

zero-times : (k : ℕ) → 0 * k ≡ 0
zero-times k = omega arith

pub over_times : (a : ℤ) (k : ℕ) → over (a *ℤ pos k) ≡ over a * k
over_times (pos a) k = refl
over_times (negsuc a) k = over_neg (pos (suc a * k)) ∙ sym (zero-times k)

pub under-times : (a : ℤ) (k : ℕ) → under (a *ℤ pos k) ≡ under a * k
under-times (pos a) k = sym (zero-times k)
under-times (negsuc a) k = under_neg (pos (suc a * k))

-- toward zero
pub over_quot : (a : ℤ) (k : ℕ) → over (quot_z a (pos k)) ≤ over a / k
over_quot (pos a) k = omega arith
over_quot (negsuc a) k = subst (λ (n : ℕ). n ≤ 0 / k) (sym (over_neg (pos (suc a / k)))) (omega arith)

pub under_quot : (a : ℤ) (k : ℕ) → under (quot_z a (pos k)) ≤ under a / k
under_quot (pos a) k = omega arith
under_quot (negsuc a) k = subst (λ (n : ℕ). n ≤ suc a / k) (sym (under_neg (pos (suc a / k)))) (omega arith)

-- ---- bounds

pub one_sided : (a : ℤ) → (over a ≡ 0) ⊎ (under a ≡ 0)
one_sided (pos a) = inr refl
one_sided (negsuc a) = inl refl

-- a lies from -lo to hi
abbrev pub Within : ℕ → ℕ → ℤ → Type 0
Within lo hi a = (over a ≤ under a + hi) × (under a ≤ over a + lo)

pub within_parts : (lo hi : ℕ) (a : ℤ) → Within lo hi a → (over a ≤ hi) × (under a ≤ lo)
within_parts lo hi (pos a) h = (omega (arith, h.0), omega arith)
within_parts lo hi (negsuc a) h = (omega arith, omega (arith, h.1))

pub within-fits : (a : ℤ) → Within 9223372036854775808 9223372036854775807 a → SFits w64 a
within-fits (pos a) h = record { sfits = omega (arith, h.0) }
within-fits (negsuc a) h = record { sfits = omega (arith, h.1) }

pub abs_parts : (a : ℤ) → nat_abs a ≡ over a + under a
abs_parts (pos a) = omega arith
abs_parts (negsuc a) = omega arith

-- ---- as the machine holds it

-- what the machine reads back from a number's bits; it is the number (`mir.ValLaws.to_z-of_z`)
abbrev pub back : ℤ → ℤ
back z = to_z w64 (of_z w64 z)

-- a test on what the machine reads back is the test on the numbers
pub read_test : (p : ℤ → ℤ → Bool) (a b : ℤ) (v : Bool) → SFits w64 a → SFits w64 b → p (back a) (back b) ≡ v → p a b ≡ v
read_test p a b v f g e = subst (λ (z : ℤ). p a z ≡ v) (to_z-of_z w64 b g) (subst (λ (z : ℤ). p z (back b) ≡ v) (to_z-of_z w64 a f) e)

-- a magnitude over n, which code tests above zero and then below it
pub above : (n : ℕ) (a : ℤ) → SFits w64 a → lt_z (pos n) (back a) ≡ true → true ≡ ltb n (nat_abs a)
above n a f h = go a (rw (to_z-of_z w64 a f) at h)
  where
    go : (a : ℤ) → lt_z (pos n) a ≡ true → true ≡ ltb n (nat_abs a)
    go (pos a) h = sym h
    go (negsuc a) h = absurd (false≢true h)

pub below : (n : ℕ) (a : ℤ) → SFits w64 a → lt_z (pos (suc n)) (back a) ≡ false → lt_z (back a) (negsuc n) ≡ ltb (suc n) (nat_abs a)
below n a f h = rw (to_z-of_z w64 a f) (go a (rw (to_z-of_z w64 a f) at h))
  where
    go : (a : ℤ) → lt_z (pos (suc n)) a ≡ false → lt_z a (negsuc n) ≡ ltb (suc n) (nat_abs a)
    go (pos a) h = sym h
    go (negsuc a) h = sym (leb-suc-suc (suc n) a)
