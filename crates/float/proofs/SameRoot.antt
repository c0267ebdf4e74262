-- `root` is the square root of the language's account of IEEE 754. That one rounds √x cut to 2271 binary places, with half a place more where something is
-- cut off; `root` rounds it cut to 1074, always with half a place more. About √x the values of the format and the middles of two are whole numbers of places,
-- and where √x is such a number it is a value of the format: so both round to the same double. Assumes nothing.
use Rattle.std.proofs.Common.{◌≡◌, ℕ, zero, suc, ◌+◌, ◌*◌, ◌/◌, ◌^◌, ◌<◌, ◌≤◌, Bool, true, false, cond, T, eqb, ◌⊎◌, inl, inr, ℤ, pos, negsuc, sym, refl, ap, ◌∙◌, le_trans, le_of_eq, lt_of_lt_of_le, lt_of_le_of_lt, eq-or-lt_of_le, mul-le-mul_right, mul-lt-mul_of_pos_right, mul_assoc, mul_right_comm, mul-pos, mul-div_cancel, pow-suc, eqb→eq, lt→ltb, arith, pow_pos, pow-add}
use native.Mathlib.Nat.{mul-mul-mul_comm}
use lib.Ieee.{Float, nan, inf, fin, Format, binary64, low, up, down, size, round, root_below, root_twice, sqrt, fits}
use lib.Ieee.Root.{whole_part}
use lib.Ieee.Fits.{down_pos}
use Rattle.float.specs.Root.{whole_root, root_of, root, in_units}
use Rattle.float.proofs.Held.{fits_says, place}
use Rattle.float.proofs.Squares.{square_lt, IsWhole, whole_root_is}
use Rattle.float.proofs.NearestRoot.{Near, near-whole, rounds_near, root_near, root_units, whole_is_double}

-- ---- what the library's twice the root is beside twice a number t: as n is beside the square of t
abbrev Beside : ℕ → ℕ → ℕ → Type 0
Beside n a t = (t * t ≤ n → 2 * t ≤ a) × (n < t * t → a < 2 * t) × (t * t < n → 2 * t < a)

beside : (n t : ℕ) → Beside n (root_twice n) t
unfolding root_twice
beside n t = go (eqb (r * r) n) (eqb→eq (r * r) n)
  where
    r : ℕ
    r = root_below (size n) n

    lower : r * r ≤ n
    lower = (whole_part n).0

    upper : n < (r + 1) * (r + 1)
    upper = (whole_part n).1

    not_above : t * t ≤ n → t < r + 1
    not_above h = square_lt (omega (arith, upper))

    above : n < t * t → r < t
    above h = square_lt (omega (arith, lower))

    go : (b : Bool) → (T b → r * r ≡ n) → Beside n (2 * r + cond b 0 1) t
    go true e =
        let whole : r * r ≡ n = e tt in
        (λ h. omega (arith, not_above h), λ h. omega (arith, above h), λ h. let l : t < r = square_lt (omega arith) in omega arith)
    go false e = (λ h. omega (arith, not_above h), λ h. omega (arith, above h), λ h. let l : t * t ≤ n = omega arith in omega (arith, not_above l))

-- ---- √x units, rounded by units and by places, of which w are one unit
same_root : (f : Format) (x w : ℕ) → 0 < w → (h : Near f (whole_root x)) → (whole_root x * whole_root x ≡ x → h.n * 2 ^ suc h.g ≡ whole_root x)
    → round f false (root_twice (x * (w * w))) (2 * w * 2 ^ low f) ≡ root_of f x
same_root f x w W h double =
    rounds_near f s h a (2 * w) (mul-pos {m = 2} (omega arith) W) (omega (arith, lo)) (omega (arith, hi)) (strict (eq-or-lt_of_le i.0))
    ∙ sym (root_near f x h)
  where
    s : ℕ
    s = whole_root x

    a : ℕ
    a = root_twice (x * (w * w))

    i : IsWhole x s
    i = whole_root_is x

    squared : (t : ℕ) → t * w * (t * w) ≡ t * t * (w * w)
    squared t = mul-mul-mul_comm t w t w

    less : (y z : ℕ) → y < z → y * (w * w) < z * (w * w)
    less y z k = mul-lt-mul_of_pos_right k (mul-pos W W)

    lo : 2 * (s * w) ≤ a
    lo = (beside (x * (w * w)) (s * w)).0 (le_trans (le_of_eq (squared s)) (mul-le-mul_right (w * w) i.0))

    hi : a < 2 * (suc s * w)
    hi = (beside (x * (w * w)) (suc s * w)).1 (lt_of_lt_of_le (less x (suc s * suc s) i.1) (le_of_eq (sym (squared (suc s)))))

    step : 0 < 2 ^ h.g * (2 * w)
    step = mul-pos (pow_pos h.g) (mul-pos {m = 2} (omega arith) W)

    strict : (s * s ≡ x) ⊎ (s * s < x) → h.n * 2 ^ suc h.g * (2 * w) < a + 2 ^ h.g * (2 * w)
    strict (inl e) = let k : h.n * 2 ^ suc h.g * (2 * w) ≡ s * (2 * w) = ap (λ (y : ℕ). y * (2 * w)) (double e) in omega (arith, lo, step)
    strict (inr l) =
        let k : 2 * (s * w) < a = (beside (x * (w * w)) (s * w)).2 (lt_of_le_of_lt (le_of_eq (squared s)) (less (s * s) x l)) in
        let u : h.n * 2 ^ suc h.g * (2 * w) ≤ (s + 2 ^ h.g) * (2 * w) = mul-le-mul_right (2 * w) h.under in
        omega arith

-- ---- by the cases of the two definitions

-- what is v units is v * 2 ^ k places, of which 2 ^ k are one unit
scaled : (a l k d v : ℕ) → 0 < d → a * 2 ^ l ≡ v * d → a * 2 ^ (l + k) / d ≡ v * 2 ^ k
scaled a l k d v D e =
    ap (λ (x : ℕ). x / d) (ap (λ (x : ℕ). a * x) (pow-add 2 l k) ∙ sym (mul_assoc a (2 ^ l) (2 ^ k)) ∙ ap (λ (x : ℕ). x * 2 ^ k) e ∙ mul_right_comm v d (2 ^ k)) ∙ mul-div_cancel (v * 2 ^ k) D

places : (m : ℕ) (e : ℤ) → T (fits binary64 (fin false (suc m) e)) → suc m * up e * 2 ^ 4542 / down e ≡ in_units binary64 (fin false (suc m) e) * 2 ^ 1074 * (2 ^ 1197 * 2 ^ 1197)
unfolding in_units
places m e h =
    let at = place 1074 (suc m) e (fits_says binary64 false m e h).1 in
    let v = suc m * 2 ^ at.0 in
    scaled (suc m * up e) 1074 3468 (down e) v (down_pos e) at.1
    ∙ ap (λ (x : ℕ). x * 2 ^ 3468) (sym (mul-div_cancel v (down_pos e)) ∙ ap (λ (x : ℕ). x / down e) (sym at.1))
    ∙ sym (mul_assoc (suc m * up e * 2 ^ 1074 / down e) (2 ^ 1074) (2 ^ 1197 * 2 ^ 1197))

not_one : (k : ℕ) → 2 ^ suc k ≡ 1 → ⊥
not_one k h = omega (arith, pow-suc 2 k)

pub root_is_sqrt : (x : Float) → T (fits binary64 x) → sqrt binary64 x ≡ root binary64 x
unfolding sqrt root fits
root_is_sqrt nan h = refl
root_is_sqrt (inf true) h = refl
root_is_sqrt (inf false) h = refl
root_is_sqrt (fin s zero (pos zero)) h = refl
root_is_sqrt (fin s zero (pos (suc k))) h = absurd (let e = eqb→eq (2 ^ suc k * 1) 1 h in not_one k (omega arith))
root_is_sqrt (fin s zero (negsuc k)) h = absurd (let e = eqb→eq (1 * 2 ^ suc k) 1 h in not_one k (omega arith))
root_is_sqrt (fin true (suc m) e) h = refl
root_is_sqrt (fin false (suc m) e) h =
    let x = fin false (suc m) e in
    let above = lt→ltb 0 (suc m) (omega arith) in
    let near = near-whole x h above in
    ap (λ (n : ℕ). round binary64 false (root_twice n) (2 ^ 2272)) (places m e h)
    ∙ same_root binary64 (in_units binary64 x * 2 ^ 1074) (2 ^ 1197) (pow_pos 1197) near (whole_is_double binary64 x h near)
    ∙ sym (root_units binary64 x above)
