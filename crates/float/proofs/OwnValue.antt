-- A double is its own nearest double: rounding the value of one that the format holds gives it back.
-- The rounded value has the fraction's own size, since nothing is lost, and two doubles of one size and sign have the same bits. Assumes nothing.
use Rattle.std.proofs.Common.{◌≡◌, ℕ, zero, suc, ◌+◌, ◌-◌, ◌*◌, ◌/◌, ◌^◌, ◌<◌, Bool, cond, T, ℤ, sym, ap, ◌∙◌, subst, mul_comm, lt_of_mul-lt-mul_right, mul-lt-mul_of_pos_right, zero-mul, mul_right_comm, pow_pos, pow-add}
use lib.Ieee.{Float, nan, inf, fin, Format, prec, emax, low, up, down, size, round, fits, top, hid, to_bits, of_bits}
use lib.Ieee.Bits.{of_bits-to_bits}
use lib.Ieee.Exact.{HasValue, round_exact}
use lib.Ieee.Fits.{down_pos, round-fits}
use lib.Ieee.Nearest.{div_same}
use Rattle.float.proofs.Held.{fits_says, place}

-- two doubles of one sign and size are one
same_bits : (f : Format) (s : Bool) (m n : ℕ) (e g : ℤ) → m * up e * down g ≡ n * up g * down e → to_bits f (fin s m e) ≡ to_bits f (fin s n g)
unfolding to_bits
same_bits f s m n e g h =
    let l = 2 ^ low f in
    let cross : m * up e * l * down g ≡ n * up g * l * down e =
    mul_right_comm (m * up e) l (down g) ∙ ap (λ (x : ℕ). x * l) h ∙ mul_right_comm (n * up g) (down e) l in
    ap (λ (u : ℕ). cond s (top f) 0 + (size u - prec f) * hid f + u / 2 ^ (size u - prec f))
    (div_same (m * up e * l) (down e) (n * up g * l) (down g) (down_pos e) (down_pos g) cross)

only_one : (f : Format) (s : Bool) (x : Float) (m : ℕ) (e : ℤ) → T (fits f x) → T (fits f (fin s m e)) → HasValue x s (m * up e) (down e) → x ≡ fin s m e
only_one f s nan m e p q v = absurd v
only_one f s (inf t) m e p q v = absurd v
only_one f s (fin t n g) m e p q v =
    let b : to_bits f (fin t n g) ≡ to_bits f (fin s m e) = ap (λ (u : Bool). to_bits f (fin u n g)) v.0 ∙ same_bits f s n m g e v.1 in
    sym (of_bits-to_bits f (fin t n g) p) ∙ ap (of_bits f) b ∙ of_bits-to_bits f (fin s m e) q

-- below 2 ^ (emax + 1), so below that many units
under : (f : Format) (m j : ℕ) (e : ℤ) → m * up e < 2 ^ suc (emax f) * down e → m * up e * 2 ^ low f ≡ m * 2 ^ j * down e → m * 2 ^ j < 2 ^ (low f + suc (emax f))
under f m j e h v =
    let l = 2 ^ low f in
    let k : m * up e * l < 2 ^ suc (emax f) * down e * l = mul-lt-mul_of_pos_right h (pow_pos (low f)) in
    lt_of_mul-lt-mul_right (down e)
    (subst (λ (x : ℕ). x < 2 ^ (low f + suc (emax f)) * down e) v
    (subst (λ (x : ℕ). m * up e * l < x)
    (mul_right_comm (2 ^ suc (emax f)) (down e) l ∙ ap (λ (x : ℕ). x * down e) (mul_comm (2 ^ suc (emax f)) l ∙ sym (pow-add 2 (low f) (suc (emax f))))) k))

-- a double's own value rounds to the double
pub round-own : (f : Format) (s : Bool) (m : ℕ) (e : ℤ) → T (fits f (fin s m e)) → round f s (m * up e) (down e) ≡ fin s m e
round-own f s zero e h =
    let z : zero * up e ≡ 0 = zero-mul (up e) in
    only_one f s (round f s (zero * up e) (down e)) zero e (round-fits f s (zero * up e) (down e)) h
    (round_exact f s (zero * up e) (down e) 0 0 (down_pos e) (pow_pos (prec f)) (pow_pos (low f + suc (emax f)))
    (ap (λ (x : ℕ). x * 2 ^ low f) z ∙ zero-mul (2 ^ low f) ∙ sym (zero-mul (down e))))
round-own f s (suc m) e h =
    let says = fits_says f s m e h in
    let at = place (low f) (suc m) e says.1 in
    let less = under f (suc m) at.0 e says.2 at.1 in
    only_one f s (round f s (suc m * up e) (down e)) (suc m) e (round-fits f s (suc m * up e) (down e)) h
    (round_exact f s (suc m * up e) (down e) (suc m) at.0 (down_pos e) says.0 less at.1)
