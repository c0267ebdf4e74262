-- The tolerance of an even window: a window that is even by a tolerance is even by any larger one, and −0.0, which check 16 lets pass as it does 0.0,
-- tells the same windows even as that, so that `propagate_ecef` answers the same by both. By the test of each gap. Assumes nothing.
use mathlib.Core.Path.{◌≡◌, refl, ap}
use mathlib.Core.Bool.{Bool, true, false, not, cond}
use mathlib.Core.List.{List}
use Prim.Native.Nat.{ℕ}
use lib.Dec.{T, T_not, not_T}
use lib.IntN.{ℤ}
use lib.Ieee.{Float, lt, le}
use Rattle.std.proofs.lemmas.Float.{lt_of_le_of_lt}
use Rattle.common.specs.Lists.{list_of}
use Rattle.common.specs.Numbers.{nought, minus_zero}
use Rattle.common.specs.Outcome.{Outcome, mapped, unless_refused}
use Rattle.units.specs.declared.Seconds.{Seconds}
use Rattle.chebyshev.specs.Inverse.{inverted}
use Rattle.chebyshev.specs.Ideal.{ideal_matrix}
use Rattle.checks.specs.Checks.{not_finite}
use Rattle.checks.specs.Entries.{first_failing, propagation_checks}
use Rattle.checks.proofs.Anys.{any_is, is_any}
use Rattle.orbit.specs.declared.propagation.Motion.{Motion}
use Rattle.orbit.specs.Place.{located}
use Rattle.orbit.specs.Window.{wide_gap, uneven, node_matrix, model_or, window_seconds, window_start}
use Rattle.orbit.specs.Propagation.{motion_at, propagated, propagate_ecef}

-- by a tolerance that is at most another, each window is uneven that is so by the other
uneven_by_less : (a b : Seconds) (t : List Float) → T (le a.0 b.0) → T (uneven b t) → T (uneven a t)
uneven_by_less a b t h u =
    let gaps : List ℕ = list_of (λ k. k) 9 0 in
    let wide = any_is (wide_gap b t) gaps u in
    is_any (wide_gap a t) wide.0 gaps wide.1 (lt_of_le_of_lt a.0 b.0 _ h wide.2)

-- so a window that is even stays so by any larger tolerance
pub even_by_more : (a b : Seconds) (t : List Float) → T (le a.0 b.0) → T (not (uneven a t)) → T (not (uneven b t))
even_by_more a b t h e = not_T (uneven b t) (λ u. T_not (uneven a t) e (uneven_by_less a b t h u))

-- ---- the two zeros

abbrev zero_seconds : Seconds
zero_seconds = record { 0 = nought }

abbrev minus_zero_seconds : Seconds
minus_zero_seconds = record { 0 = minus_zero }

same_test : (v w : Bool) → (T v → T w) → (T w → T v) → v ≡ w
same_test true true f g = refl
same_test true false f g = absurd (f tt)
same_test false true f g = absurd (g tt)
same_test false false f g = refl

-- each is at most the other
pub same_windows : (t : List Float) → uneven minus_zero_seconds t ≡ uneven zero_seconds t
unfolding le
same_windows t = same_test (uneven minus_zero_seconds t) (uneven zero_seconds t) (uneven_by_less zero_seconds minus_zero_seconds t tt) (uneven_by_less minus_zero_seconds zero_seconds t tt)

same_motion : (instants : List ℤ) (positions : List Float) (t : ℤ) → propagated minus_zero_seconds instants positions t ≡ propagated zero_seconds instants positions t
same_motion instants positions t =
    let start = window_start instants t in
    let w = window_seconds instants start in
    ap (λ (v : Bool). mapped (λ m. motion_at m t) (model_or (inverted (cond v (node_matrix w) ideal_matrix)) w positions start)) (same_windows w)

pub same_propagation : (instants : List ℤ) (positions : List Float) (t : ℤ) → propagate_ecef instants positions t minus_zero_seconds ≡ propagate_ecef instants positions t zero_seconds
unfolding not_finite lt
same_propagation instants positions t =
    ap (λ (o : Outcome Motion). unless_refused (first_failing (propagation_checks instants positions t zero_seconds)) (mapped (located instants t) o)) (same_motion instants positions t)
