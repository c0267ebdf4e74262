-- The gaps of a window, one for each step of the search for a wide one; and a model by its parts, whether or not its nodes have an inverse.
-- Assumes nothing.
use mathlib.Core.Path.{◌≡◌, refl, sym, ap, ◌∙◌}
use mathlib.Core.Bool.{Bool, true, false, cond, ◌||◌, or_assoc}
use mathlib.Core.List.{List}
use Prim.Native.Nat.{ℕ, zero, suc, ◌+◌, ◌-◌, ◌≤◌, ◌<◌}
use native.Mathlib.Omega.{arith}
use lib.Ieee.{Float}
use Rattle.common.specs.Lists.{list_of}
use Rattle.checks.specs.Checks.{any}
use Rattle.chebyshev.specs.Inverse.{Row, Matrix, inverted, rows_of, singular_refusal}
use Rattle.chebyshev.specs.Ideal.{ideal_matrix}
use Rattle.chebyshev.specs.Coefficients.{coefficients_by, coefficients_of}
use Rattle.chebyshev.specs.declared.coefficients.Coefficients.{Coefficients}
use Rattle.chebyshev.proofs.IdealInverse.{ideal_not_refused}
use Rattle.chebyshev.proofs.Columns.{inverted_told, inverted_eight}
use Rattle.common.specs.Outcome.{Outcome, refused, answered, refusal_in, Told, mapped}
use Rattle.orbit.specs.declared.window.ChebyshevOrbit.{ChebyshevOrbit}
use Rattle.orbit.specs.Window.{first_time, last_time, wide_gap, uneven, node_matrix, axis_of, coefficients, inversion_of, model_or}
use Rattle.units.specs.declared.Seconds.{Seconds}

-- one of the gaps from k on is wide
abbrev pub wide_from : ℕ → Seconds → List Float → Bool
wide_from k tolerance t = any (wide_gap tolerance t) (list_of (λ n. n) (9 - k) k)

-- one gap more: u says whether one before it was wide, b whether it is
pub wide_more : (tolerance : Seconds) (t : List Float) (k : ℕ) (u b : Bool) → k < 9 → wide_gap tolerance t k ≡ b → (u || b) || wide_from (k + 1) tolerance t ≡ u || wide_from k tolerance t
unfolding list_of
wide_more tolerance t k u b h w =
    let e : 9 - k ≡ suc (9 - (k + 1)) = omega arith in
    rw (e, w) (or_assoc u b (wide_from (k + 1) tolerance t))

pub wide_end : (tolerance : Seconds) (t : List Float) (k : ℕ) → 9 ≤ k → wide_from k tolerance t ≡ false
unfolding list_of
wide_end tolerance t k h =
    let e : 9 - k ≡ 0 = omega arith in
    rw e

-- ---- a model by its ten times t and its coefficients

abbrev model_with : List Float → Coefficients → ChebyshevOrbit
model_with t c = record { t0 = record { 0 = first_time t }; t9 = record { 0 = last_time t }; cx = c.cx; cy = c.cy; cz = c.cz }

-- by an inversion that is not refused
pub made_is : (o : Outcome Matrix) (t positions : List Float) (start : ℕ) (x y z : Row) → Told o → refusal_in o ≡ 0
    → x ≡ coefficients (rows_of o) positions start 0 → y ≡ coefficients (rows_of o) positions start 1 → z ≡ coefficients (rows_of o) positions start 2
    → answered (model_with t (record { cx = x; cy = y; cz = z })) ≡ model_or o t positions start
made_is (refused zero) t positions start x y z told h ex ey ez = absurd told
made_is (refused (suc n)) t positions start x y z told h ex ey ez = absurd (omega (arith, h))
made_is (answered v) t positions start x y z told h ex ey ez = rw (ex, ey, ez)

-- by an inversion that gave coefficients
pub through_is : (o : Outcome Matrix) (t positions : List Float) (start : ℕ) (c : Coefficients)
    → answered c ≡ mapped (coefficients_of (axis_of positions start 0) (axis_of positions start 1) (axis_of positions start 2)) o
    → answered (model_with t c) ≡ model_or o t positions start
through_is o t positions start c e = ap (mapped (model_with t)) e ∙ through_with o
  where
    through_with : (o : Outcome Matrix) → mapped (model_with t) (mapped (coefficients_of (axis_of positions start 0) (axis_of positions start 1) (axis_of positions start 2)) o) ≡ model_or o t positions start
    through_with (refused n) = refl
    through_with (answered v) = refl

-- by the window's evenness, for the window's axes x, y and z
module _ (tolerance : Seconds) (t positions : List Float) (start : ℕ) (x y z : Row) (ex : x ≡ axis_of positions start 0) (ey : y ≡ axis_of positions start 1) (ez : z ≡ axis_of positions start 2) where
  pub uneven_is : (nodes : Matrix) (c : Coefficients) → uneven tolerance t ≡ true → nodes ≡ node_matrix t → answered c ≡ mapped (coefficients_of x y z) (inverted nodes)
      → answered (model_with t c) ≡ model_or (inversion_of tolerance t) t positions start
  uneven_is nodes c u en e = rw u (through_is (inverted (node_matrix t)) t positions start c (e ∙ rw (en, ex, ey, ez)))

  pub even_is : (cx cy cz : Row) → uneven tolerance t ≡ false
      → cx ≡ coefficients_by (rows_of (inverted ideal_matrix)) x → cy ≡ coefficients_by (rows_of (inverted ideal_matrix)) y → cz ≡ coefficients_by (rows_of (inverted ideal_matrix)) z
      → answered (model_with t (record { cx = cx; cy = cy; cz = cz })) ≡ model_or (inversion_of tolerance t) t positions start
  even_is cx cy cz u fx fy fz = rw u (made_is (inverted ideal_matrix) t positions start cx cy cz (inverted_told ideal_matrix) ideal_not_refused (rw (sym ex) fx) (rw (sym ey) fy) (rw (sym ez) fz))

-- ---- the inversion of a window

-- whichever nodes are inverted
pub inversion_told : (tolerance : Seconds) (t : List Float) → Told (inversion_of tolerance t)
inversion_told tolerance t = inverted_told (cond (uneven tolerance t) (node_matrix t) ideal_matrix)

pub inversion_eight : (tolerance : Seconds) (t : List Float) (k : ℕ) → inversion_of tolerance t ≡ refused k → k ≡ singular_refusal
inversion_eight tolerance t k e = inverted_eight (cond (uneven tolerance t) (node_matrix t) ideal_matrix) k e
