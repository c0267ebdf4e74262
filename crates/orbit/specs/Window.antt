-- `get_chebyshev_model`: the window of ten coordinates about an instant, and its Chebyshev model. Instants are nanoseconds, times seconds,
-- positions metres, three doubles each.
use Rattle.std.specs.Prelude.{ℕ, ◌+◌, ◌-◌, ◌*◌, Bool, cond, List, [], ◌∷◌, ltb, leb, ℤ, pos, length, get_or, Float}
use Rattle.std.specs.Int.Signed.{le_z}
use Rattle.std.specs.Float.{nan}
use Rattle.std.specs.Float.Ieee.{lt}
use Rattle.common.specs.Rounded.{◌⊖◌, ◌⊗◌, ◌⊘◌}
use Rattle.common.specs.Numbers.{one, two, nine, billionth}
use Rattle.float.specs.Conversions.{nearest_of}
use Rattle.float.specs.Signs.{magnitude_of}
use Rattle.common.specs.Lists.{list_of}
use Rattle.units.specs.declared.Seconds.{Seconds}
use Rattle.chebyshev.specs.Recurrence.{rounded, polynomials, terms}
use Rattle.chebyshev.specs.Inverse.{Row, Matrix, inverted}
use Rattle.chebyshev.specs.Ideal.{ideal_matrix}
use Rattle.chebyshev.specs.Coefficients.{coefficients_by}
use Rattle.common.specs.Outcome.{Outcome, mapped, unless_refused}
use Rattle.checks.specs.Checks.{any}
use Rattle.checks.specs.Entries.{first_failing, propagation_checks}
use Rattle.checks.specs.Limits.{axes}
use Rattle.orbit.specs.declared.window.ChebyshevOrbit.{ChebyshevOrbit}

-- "idx is the last coordinate at or before the instant, or 0": the index k of the first, and the last found so far
unfoldable pub last_from : ℕ → ℕ → List ℤ → ℤ → ℕ
last_from k found [] t = found
last_from k found (x ∷ xs) t = last_from (k + 1) (cond (le_z x t) k found) xs t

-- the index of the last coordinate at or before the instant, or 0
abbrev pub last_before : List ℤ → ℤ → ℕ
last_before instants t = last_from 0 0 instants t

-- "Start is 0 if idx < 4, length − 10 if idx + 5 ≥ length, else idx − 4"
abbrev pub start_of : ℕ → ℕ → ℕ
start_of idx n = cond (ltb idx 4) 0 (cond (leb n (idx + 5)) (n - terms) (idx - 4))

-- the start of the window about an instant
abbrev pub window_start : List ℤ → ℤ → ℕ
window_start instants t = start_of (last_before instants t) (length instants)

-- "Seconds are the rounded nanoseconds times 1e-9"
abbrev pub seconds_of : ℤ → Float
seconds_of n = nearest_of n ⊗ billionth

-- the ten times of the window that begins at start
abbrev pub window_seconds : List ℤ → ℕ → List Float
window_seconds instants start = list_of (λ k. seconds_of (get_or instants (start + k) (pos 0))) terms 0

-- the first of ten times
abbrev pub first_time : List Float → Float
first_time t = get_or t 0 nan

-- the last of ten times
abbrev pub last_time : List Float → Float
last_time t = get_or t 9 nan

-- "no gap differs from (t9 − t0)/9 by more than 1.0", where request 2.7 has the tolerance, "an input in seconds", for 1.0: the gap after time k is off
-- by more than it; a NaN is not more
abbrev pub wide_gap : Seconds → List Float → ℕ → Bool
wide_gap tolerance t k = lt tolerance.0 (magnitude_of (get_or t (k + 1) nan ⊖ get_or t k nan ⊖ (last_time t ⊖ first_time t) ⊘ nine))

-- one of the nine gaps is wide
abbrev pub uneven : Seconds → List Float → Bool
uneven tolerance t = any (wide_gap tolerance t) (list_of (λ k. k) 9 0)

-- τ of a time between the window's ends: 2 (t − t0)/(t9 − t0) − 1
abbrev pub tau_of : Float → Float → Float → Float
tau_of t0 t9 t = two ⊗ (t ⊖ t0) ⊘ (t9 ⊖ t0) ⊖ one

-- T0 to T9 at each of the ten times
abbrev pub node_matrix : List Float → Matrix
node_matrix t = list_of (λ k. polynomials rounded (tau_of (first_time t) (last_time t) (get_or t k nan))) terms 0

-- one axis of the window's ten positions
abbrev pub axis_of : List Float → ℕ → ℕ → Row
axis_of positions start axis = list_of (λ k. get_or positions (axes * (start + k) + axis) nan) terms 0

-- the coefficients of one axis by the inverse of the nodes' matrix
abbrev pub coefficients : Matrix → List Float → ℕ → ℕ → Row
coefficients inv positions start axis = coefficients_by inv (axis_of positions start axis)

-- the model of a window by the inverse of its nodes
abbrev pub model_by : Matrix → List Float → List Float → ℕ → ChebyshevOrbit
model_by inv t positions start = record {
  t0 = record { 0 = first_time t };
  t9 = record { 0 = last_time t };
  cx = coefficients inv positions start 0;
  cy = coefficients inv positions start 1;
  cz = coefficients inv positions start 2;
}

-- the model by an inversion, whose refusal stays
abbrev pub model_or : Outcome Matrix → List Float → List Float → ℕ → Outcome ChebyshevOrbit
model_or o t positions start = mapped (λ v. model_by v t positions start) o

-- "then ideal nodes −1 + 2k/9 are used": of an even window the ideal matrix is inverted, else that of its own nodes
abbrev pub inversion_of : Seconds → List Float → Outcome Matrix
inversion_of tolerance t = inverted (cond (uneven tolerance t) (node_matrix t) ideal_matrix)

-- the model of the window that begins at start
abbrev pub model_at : Seconds → List ℤ → List Float → ℕ → Outcome ChebyshevOrbit
model_at tolerance instants positions start = let t = window_seconds instants start in model_or (inversion_of tolerance t) t positions start

-- the model about an instant
abbrev pub model_about : Seconds → List ℤ → List Float → ℤ → Outcome ChebyshevOrbit
model_about tolerance instants positions t = model_at tolerance instants positions (window_start instants t)

-- ---- the entry: checks 1, 4, 5, 6, 16, then 8

-- the refusal, or the model
abbrev pub get_chebyshev_model : List ℤ → List Float → ℤ → Seconds → Outcome ChebyshevOrbit
get_chebyshev_model instants positions t tolerance =
    unless_refused (first_failing (propagation_checks instants positions t tolerance)) (model_about tolerance instants positions t)
