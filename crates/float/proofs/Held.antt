-- What it says of a number that a format holds it: how few digits it has, which its last place is, and how large it is at most. Assumes nothing.
use Rattle.std.proofs.Common.{◌≡◌, ℕ, suc, ◌+◌, ◌-◌, ◌*◌, ◌%◌, ◌^◌, ◌<◌, ◌≤◌, Bool, ◌&&◌, T, eqb, ltb, leb, ℤ, pos, negsuc, sym, ap, ◌∙◌, lt_of_lt_of_le, le_of_suc-le-suc, lt_irrefl, mul_assoc, lt_of_not-le, mul-one, ltb→lt, leb→le, pow-add}
use lib.Pow.{pow-lt}
use lib.Ieee.{fin, Format, prec, emax, low, up, down, fits}
use lib.Ieee.Digits.{back}
use lib.Ieee.Fits.{and_l, and_r}

-- what `fits` says of a number that is not zero: it has few enough digits, its last place is one of the format's, and it does not overflow
pub fits_says : (f : Format) (s : Bool) (m : ℕ) (e : ℤ) → T (fits f (fin s (suc m) e))
    → (suc m < 2 ^ prec f) × (down e ≤ 2 ^ low f) × (suc m * up e < 2 ^ suc (emax f) * down e)
unfolding fits
fits_says f s m e t =
    let A = eqb (suc m % 2) 1 in
    let B = ltb (suc m) (2 ^ prec f) in
    let C = leb (down e) (2 ^ low f) in
    let D = ltb (suc m * up e) (2 ^ suc (emax f) * down e) in (
      ltb→lt (suc m) (2 ^ prec f) (and_r A B (and_l (A && B) C (and_l (A && B && C) D t))),
      leb→le (down e) (2 ^ low f) (and_r (A && B) C (and_l (A && B && C) D t)),
      ltb→lt (suc m * up e) (2 ^ suc (emax f) * down e) (and_r (A && B && C) D t),
    )

pow_le_back : (a l : ℕ) → 2 ^ a ≤ 2 ^ l → a ≤ l
pow_le_back a l h = le_of_suc-le-suc (lt_of_not-le (λ (g : suc l ≤ a). lt_irrefl (2 ^ l) (lt_of_lt_of_le (pow-lt g) h)))

-- in units of 2 ^ -l it is m * 2 ^ j
pub place : (l m : ℕ) (e : ℤ) → down e ≤ 2 ^ l → (j : ℕ) × (m * up e * 2 ^ l ≡ m * 2 ^ j * down e)
place l m (pos a) h = (a + l, mul_assoc m (2 ^ a) (2 ^ l) ∙ ap (λ (x : ℕ). m * x) (sym (pow-add 2 a l)) ∙ sym (mul-one (m * 2 ^ (a + l))))
place l m (negsuc a) h =
    let le : suc a ≤ l = pow_le_back (suc a) l h in (
      l - suc a,
      ap (λ (x : ℕ). x * 2 ^ l) (mul-one m)
          ∙ ap (λ (x : ℕ). m * x) (ap (λ (x : ℕ). 2 ^ x) (sym (back l (suc a) le)) ∙ pow-add 2 (l - suc a) (suc a))
          ∙ sym (mul_assoc m (2 ^ (l - suc a)) (2 ^ suc a)),
    )
