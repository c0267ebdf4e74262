-- What is a number, and no NaN: all that is rounded; a number with a finite one added, since two infinities do not meet there; a number over one that is finite and above zero, as the double
-- nearest to a count is. By the cases of the operations. Assumes nothing.
use Rattle.std.proofs.Common.{ℕ, zero, suc, ◌+◌, ◌-◌, ◌*◌, ◌^◌, ◌<◌, ◌≤◌, Bool, true, false, cond, ◌&&◌, T, ltb, pos, arith, ne_eqb}
use mathlib.Core.Bool.{beq}
use lib.Ieee.{Float, nan, inf, fin, Format, binary64, up, down, unlike, prec, low, emax, odd, units, round, sum, add, div, of_int}
use lib.Ieee.Back.{round_whole}
use lib.Ieee.Scale.{finite}
use lib.Ieee.Positive.{positive, positive_of_value}
use Rattle.float.specs.Conversions.{nearest_of}
use Rattle.float.proofs.Comparison.{number}

either_number : (b : Bool) (x y : Float) → T (number x) → T (number y) → T (number (cond b x y))
either_number true x y h k = h
either_number false x y h k = k

odd_number : (d : ℕ) (s : Bool) (q k l : ℕ) → T (number (odd d s q k l))
unfolding odd
odd_number d s zero k l = tt
odd_number d s (suc q) k l = tt

units_number : (f : Format) (s : Bool) (q k : ℕ) → T (number (units f s q k))
unfolding units
units_number f s q k = either_number (ltb (q * 2 ^ k) (2 ^ (low f + suc (emax f)))) (odd (suc (prec f)) s q k (low f)) (inf s) (odd_number (suc (prec f)) s q k (low f)) tt

pub round_number : (f : Format) (s : Bool) (a b : ℕ) → T (number (round f s a b))
unfolding round
round_number f s a b = units_number f s _ _

sum_number : (f : Format) (s : Bool) (a : ℕ) (t : Bool) (b c : ℕ) → T (number (sum f s a t b c))
unfolding sum
sum_number f s a t b c = go (beq s t) (ltb a b)
  where
    go : (v w : Bool) → T (number (cond v (round f s (a + b) c) (cond w (round f t (b - a) c) (round f (s && ltb b a) (a - b) c))))
    go true w = round_number f s (a + b) c
    go false true = round_number f t (b - a) c
    go false false = round_number f (s && ltb b a) (a - b) c

-- a number and a finite one
pub add_number : (x y : Float) → T (number x) → T (finite y) → T (number (add binary64 x y))
unfolding add
add_number nan y h k = h
add_number (inf s) nan h k = k
add_number (inf s) (inf t) h k = absurd k
add_number (inf s) (fin t n d) h k = tt
add_number (fin s m e) nan h k = k
add_number (fin s m e) (inf t) h k = tt
add_number (fin s m e) (fin t n d) h k = sum_number binary64 s (m * up e * down d) t (n * up d * down e) (down e * down d)

-- a number over one that is finite and above zero
pub div_number : (x y : Float) → T (number x) → T (positive y) → T (number (div binary64 x y))
unfolding div
div_number nan y h k = h
div_number (inf s) nan h k = k
div_number (inf s) (inf t) h k = absurd k
div_number (inf s) (fin t n d) h k = tt
div_number (fin s m e) nan h k = k
div_number (fin s m e) (inf t) h k = tt
div_number (fin s m e) (fin true n d) h k = absurd k
div_number (fin s m e) (fin false zero d) h k = absurd k
div_number (fin s m e) (fin false (suc n) d) h k = rw (ne_eqb (suc n) 0 (λ c. omega arith)) (round_number binary64 (unlike s false) (m * up e * down d) (suc n * up d * down e))

-- the double of a count
pub count-positive : (n : ℕ) → 0 < n → n ≤ 9007199254740992 → T (positive (nearest_of (pos n)))
unfolding of_int
count-positive n h k = positive_of_value (round binary64 false n 1) n 1 (round_whole binary64 false n k) h
