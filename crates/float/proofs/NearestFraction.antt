-- `round` gives the double nearest a fraction a / b: no double is nearer (`round-nearest`). In units the fraction's whole part keeps its prec leading
-- digits and drops k, so the answer is the multiple of 2 ^ k units nearest the fraction. A double that is such a multiple is no nearer for that; any
-- other lies below 2 ^ (prec + k − 1), which is one of the multiples and not above the fraction, so it is farther than that one. Assumes nothing.
use Rattle.std.proofs.Common.{◌≡◌, ℕ, zero, suc, ◌+◌, ◌-◌, ◌*◌, ◌/◌, ◌%◌, ◌^◌, ◌<◌, ◌≤◌, Bool, sym, refl, ap, ◌∙◌, subst, le_trans, le_of_eq, lt_of_lt_of_le, le_of_lt, mul-le-mul_right, mod-lt, mul_assoc, mul_comm, le_antisymm, mul-le-mul_left, mul-pos, pow-suc, lt_of_not-le, div-add-mod', mul-one, mul_right_comm, div-mul-le_self, le_of_mul-le-mul_right, arith, pow_pos, pow_mono, pow-add, shl_lt}
use Prim.Native.Nat.{compare, Ordering}
use native.Mathlib.Decide.{dec_le}
use lib.Ieee.{Float, Format, prec, emax, low, size, nearest, round}
use lib.Ieee.Digits.{size_reaches, back}
use lib.Ieee.Exact.{HasValue, odd_sign}
use lib.Ieee.Fits.{two, two-le_pos, round_is, round-fits}
use lib.Ieee.Nearest.{closest}
use Rattle.float.specs.Root.{in_units}
use Rattle.float.specs.Nearness.{apart, distance, IsNearest}
use Rattle.float.proofs.Rounding.{Cmp, cmp, units_in}
use Rattle.float.proofs.NearestRoot.{digits, units_of}

-- ---- the nearest multiple

-- within half a step
half : (o : Ordering) (n u q r : ℕ) → q * u + r ≡ n → r < u → Cmp o (r * 2) u → (2 * (nearest q o * u) ≤ 2 * n + u) × (2 * n ≤ 2 * (nearest q o * u) + u)
half Ordering.lt n u q r e l h = (omega arith, omega arith)
half Ordering.eq n u q r e l h = even (q % 2) (q + q % 2) (mod-lt q (omega arith)) refl
  where
    even : (t p : ℕ) → t < 2 → q + t ≡ p → (2 * (p * u) ≤ 2 * n + u) × (2 * n ≤ 2 * (p * u) + u)
    even zero p a b = let c : p * u ≡ q * u = ap (λ (x : ℕ). x * u) (omega arith) in (omega arith, omega arith)
    even (suc zero) p a b = let c : p * u ≡ q * u + u = ap (λ (x : ℕ). x * u) (sym b) ∙ more in (omega arith, omega arith)
      where
        more : (q + 1) * u ≡ q * u + u
        more = omega arith
    even (suc (suc t)) p a b = absurd (omega arith)
half Ordering.gt n u q r e l h = let c : suc q * u ≡ q * u + u = omega arith in (omega arith, omega arith)

close : (n u : ℕ) → 0 < u → (2 * (closest n u * u) ≤ 2 * n + u) × (2 * n ≤ 2 * (closest n u * u) + u)
close n u U = half (compare (n % u * 2) u) n u (n / u) (n % u) (div-add-mod' n u) (mod-lt n U) (cmp (n % u * 2) u)

-- the next multiple
after : (t q u : ℕ) → t < q → t * u + u ≤ q * u
after t q u h = le_trans (le_of_eq (omega arith)) (mul-le-mul_right u h)

-- no multiple of the step is nearer
no_multiple : (n u q t : ℕ) → 2 * (q * u) ≤ 2 * n + u → 2 * n ≤ 2 * (q * u) + u → apart (q * u) n ≤ apart (t * u) n
no_multiple n u q t lo hi = go (dec_le t q) (dec_le q t)
  where
    go : Dec (t ≤ q) → Dec (q ≤ t) → apart (q * u) n ≤ apart (t * u) n
    go (yes a) (yes b) = let c : t * u ≡ q * u = ap (λ (x : ℕ). x * u) (le_antisymm a b) in omega arith
    go (yes a) (no b) = let c = after t q u (lt_of_not-le b) in omega arith
    go (no a) b = let c = after q t u (lt_of_not-le a) in omega arith

-- ---- any double

-- v is d * 2 ^ j, with few digits; the step is b * 2 ^ k, and where k is not 0 the fraction is at least 2 ^ (p + k − 1)
no_nearer : (p k n b q v d j : ℕ) → 0 < p → d < 2 ^ p → v ≡ d * 2 ^ j → (0 < k → 2 ^ (p - 1) * (b * 2 ^ k) ≤ n)
    → 2 * (q * (b * 2 ^ k)) ≤ 2 * n + b * 2 ^ k → 2 * n ≤ 2 * (q * (b * 2 ^ k)) + b * 2 ^ k → apart (q * (b * 2 ^ k)) n ≤ apart (v * b) n
no_nearer p k n b q v d j P few is least lo hi = go (dec_le k j)
  where
    -- a multiple of the step
    even : k ≤ j → v * b ≡ d * 2 ^ (j - k) * (b * 2 ^ k)
    even h =
        ap (λ (x : ℕ). x * b) (is ∙ ap (λ (x : ℕ). d * 2 ^ x) (sym (back j k h)) ∙ ap (λ (x : ℕ). d * x) (pow-add 2 (j - k) k) ∙ sym (mul_assoc d (2 ^ (j - k)) (2 ^ k)))
        ∙ mul_assoc (d * 2 ^ (j - k)) (2 ^ k) b
        ∙ ap (λ (x : ℕ). d * 2 ^ (j - k) * x) (mul_comm (2 ^ k) b)

    -- below the least multiple that the fraction reaches
    under : j < k → v * b ≤ 2 ^ (p - 1) * (b * 2 ^ k)
    under h =
        let e : p - 1 + k ≡ p + (k - 1) = omega arith in
        let w : v ≤ 2 ^ (p - 1) * 2 ^ k = le_trans (le_of_eq is) (le_trans (le_of_lt (lt_of_lt_of_le (shl_lt p j few) (pow_mono {i = p + j} {j = p + (k - 1)} (omega arith)))) (le_of_eq (ap (λ (x : ℕ). 2 ^ x) (sym e) ∙ pow-add 2 (p - 1) k))) in
        le_trans (mul-le-mul_right b w) (le_of_eq (mul_assoc (2 ^ (p - 1)) (2 ^ k) b ∙ ap (λ (x : ℕ). 2 ^ (p - 1) * x) (mul_comm (2 ^ k) b)))

    go : Dec (k ≤ j) → apart (q * (b * 2 ^ k)) n ≤ apart (v * b) n
    go (yes h) = subst (λ (x : ℕ). apart (q * (b * 2 ^ k)) n ≤ apart x n) (sym (even h)) (no_multiple n (b * 2 ^ k) q (d * 2 ^ (j - k)) lo hi)
    go (no h) =
        let l = lt_of_not-le h in
        let a = no_multiple n (b * 2 ^ k) q (2 ^ (p - 1)) lo hi in
        let c = under l in
        let z = least (omega arith) in
        farther (2 ^ (p - 1) * (b * 2 ^ k)) (v * b) (apart (q * (b * 2 ^ k)) n) c z a
      where
        farther : (m w s : ℕ) → w ≤ m → m ≤ n → s ≤ apart m n → s ≤ apart w n
        farther m w s a b c = omega arith

-- ---- of the rounded value

-- the digits dropped, the step and the multiple that is kept
module _ (f : Format) (s : Bool) (a b : ℕ) (B : 0 < b) where
  abbrev n : ℕ
  n = a * 2 ^ low f

  abbrev k : ℕ
  k = size (n / b) - prec f

  abbrev q : ℕ
  q = closest n (b * 2 ^ k)

  least : 0 < k → 2 ^ (prec f - 1) * (b * 2 ^ k) ≤ n
  least h =
      let P = two-le_pos (prec f) (two f) in
      let e : prec f - 1 + k ≡ size (n / b) - 1 = omega arith in
      let r : 2 ^ (prec f - 1 + k) ≤ n / b = size_reaches (n / b) (prec f - 1 + k) (omega arith) in
      le_trans (le_of_eq (ap (λ (x : ℕ). 2 ^ (prec f - 1) * x) (mul_comm b (2 ^ k)) ∙ sym (mul_assoc (2 ^ (prec f - 1)) (2 ^ k) b) ∙ ap (λ (x : ℕ). x * b) (sym (pow-add 2 (prec f - 1) k))))
      (le_trans (mul-le-mul_right b r) (div-mul-le_self n b))

  -- the step is not above the fraction by more than one
  small-step : 2 ^ k ≤ n / b + 1
  small-step = go (dec_le 1 k)
    where
      go : Dec (1 ≤ k) → 2 ^ k ≤ n / b + 1
      go (yes h) =
          let P = two-le_pos (prec f) (two f) in
          let r : 2 ^ (prec f - 1 + k) ≤ n / b = size_reaches (n / b) (prec f - 1 + k) (omega arith) in
          le_trans (pow_mono {i = k} {j = prec f - 1 + k} (omega arith)) (le_trans r (omega arith))
      go (no h) = le_trans (pow_mono {i = k} {j = 0} (omega arith)) (omega arith)

  -- a below 2 ^ emax does not overflow
  in_range : a < 2 ^ emax f → q * 2 ^ k < 2 ^ (low f + suc (emax f))
  in_range h =
      let L = 2 ^ low f in
      let c = (close n (b * 2 ^ k) (mul-pos B (pow_pos k))).0 in
      let step : b * 2 ^ k ≤ n + b = le_trans (le_of_eq (mul_comm b (2 ^ k))) (le_trans (mul-le-mul_right b small-step) (sum_le (n / b) (div-mul-le_self n b))) in
      let e : q * (b * 2 ^ k) ≡ q * 2 ^ k * b = ap (λ (x : ℕ). q * x) (mul_comm b (2 ^ k)) ∙ sym (mul_assoc q (2 ^ k) b) in
      let t : 2 * (q * 2 ^ k) ≤ 3 * n + 1 = le_of_mul-le-mul_right (bound (q * 2 ^ k) (q * (b * 2 ^ k)) (b * 2 ^ k) e c step) B in
      let m : n + L ≤ 2 ^ emax f * L = le_trans (le_of_eq (omega arith)) (mul-le-mul_right L h) in
      let d : 2 ^ (low f + suc (emax f)) ≡ 2 ^ emax f * L * 2 = pow-add 2 (low f) (suc (emax f)) ∙ mul_comm L (2 ^ suc (emax f)) ∙ ap (λ (x : ℕ). x * L) (pow-suc 2 (emax f)) ∙ mul_right_comm (2 ^ emax f) 2 L in
      let l : 0 < L = pow_pos (low f) in
      lt_of_lt_of_le (less (q * 2 ^ k) n L (2 ^ emax f * L) t m l) (le_of_eq (sym d))
    where
      sum_le : (x : ℕ) → x * b ≤ n → (x + 1) * b ≤ n + b
      sum_le x g = le_trans (le_of_eq more) (add_le_add_right g)
        where
          more : (x + 1) * b ≡ x * b + b
          more = omega arith

          add_le_add_right : x * b ≤ n → x * b + b ≤ n + b
          add_le_add_right g = omega arith

      bound : (w v u : ℕ) → v ≡ w * b → 2 * v ≤ 2 * n + u → u ≤ n + b → 2 * w * b ≤ (3 * n + 1) * b
      bound w v u e c g =
          let x : 2 * w * b ≡ 2 * v = mul_assoc 2 w b ∙ ap (λ (z : ℕ). 2 * z) (sym e) in
          let y : n ≤ n * b = le_trans (le_of_eq (sym (mul-one n))) (mul-le-mul_left n B) in
          let z : (3 * n + 1) * b ≡ 3 * (n * b) + b = omega arith in
          omega arith

      less : (w n L M : ℕ) → 2 * w ≤ 3 * n + 1 → n + L ≤ M → 0 < L → w < M * 2
      less w n L M t m l = omega arith

  value : a < 2 ^ emax f → in_units f (round f s a b) ≡ q * 2 ^ k
  value h =
      units_of f (round f s a b) s (q * 2 ^ k)
      (subst (λ (x : Float). HasValue x s (q * 2 ^ k) (2 ^ low f)) (sym (round_is f s a b ∙ units_in f s q k (in_range h))) (odd_sign (suc (prec f)) s q k (low f)))

  pub round-nearest : a < 2 ^ emax f → IsNearest f a b (round f s a b)
  round-nearest h = record {
    held = round-fits f s a b;
    none_nearer = λ y fy.
        let d = digits f y fy in
        let c = close n (b * 2 ^ k) (mul-pos B (pow_pos k)) in
        subst (λ (x : ℕ). apart x n ≤ distance f a b y) (sym (ap (λ (x : ℕ). x * b) (value h) ∙ mul_assoc q (2 ^ k) b ∙ ap (λ (x : ℕ). q * x) (mul_comm (2 ^ k) b)))
        (no_nearer (prec f) k n b q (in_units f y) d.0 d.1 (two-le_pos (prec f) (two f)) d.2 d.3 least c.0 c.1);
  }
