-- `evaluate` and `propagate_ecef`: position in metres and velocity in metres for each second at an instant.
use Rattle.std.specs.Prelude.{List, ℤ, Float}
use Rattle.common.specs.Rounded.{◌⊖◌, ◌⊗◌, ◌⊘◌}
use Rattle.chebyshev.specs.Recurrence.{rounded, value_of, slope_of}
use Rattle.units.specs.declared.Seconds.{Seconds}
use Rattle.units.specs.declared.Position.{Position}
use Rattle.units.specs.declared.Velocity.{Velocity}
use Rattle.common.specs.Outcome.{Outcome, mapped, outcome, unless_refused}
use Rattle.checks.specs.Entries.{first_failing, evaluation_checks, propagation_checks}
use Rattle.orbit.specs.declared.window.ChebyshevOrbit.{ChebyshevOrbit}
use Rattle.orbit.specs.declared.propagation.Motion.{Motion}
use Rattle.orbit.specs.declared.place.Located.{Located}
use Rattle.orbit.specs.Place.{located}
use Rattle.orbit.specs.Window.{seconds_of, tau_of, model_about}
use Rattle.common.specs.Numbers.{two}

-- τ of an instant in a model's window
abbrev pub tau_at : ChebyshevOrbit → ℤ → Float
tau_at m t = tau_of m.t0.0 m.t9.0 (seconds_of t)

-- how fast τ runs, for each second
abbrev pub tau_rate : ChebyshevOrbit → Float
tau_rate m = two ⊘ (m.t9.0 ⊖ m.t0.0)

-- "Instants outside the table are extrapolated": any instant has a τ
abbrev pub position_at : ChebyshevOrbit → ℤ → Position
position_at m t = let τ = tau_at m t in record { x = value_of rounded m.cx τ; y = value_of rounded m.cy τ; z = value_of rounded m.cz τ }

-- the velocity: the slope for each unit of τ times the rate of τ
abbrev pub velocity_at : ChebyshevOrbit → ℤ → Velocity
velocity_at m t =
    let τ = tau_at m t in
    record {
      x = slope_of rounded m.cx τ ⊗ tau_rate m;
      y = slope_of rounded m.cy τ ⊗ tau_rate m;
      z = slope_of rounded m.cz τ ⊗ tau_rate m;
    }

-- position and velocity
abbrev pub motion_at : ChebyshevOrbit → ℤ → Motion
motion_at m t = record { position = position_at m t; velocity = velocity_at m t }

-- an instant propagated by a table that passed its checks: a position, or 8
abbrev pub propagated : Seconds → List ℤ → List Float → ℤ → Outcome Motion
propagated tolerance instants positions t = mapped (λ m. motion_at m t) (model_about tolerance instants positions t)

-- ---- the entries

-- check 4
abbrev pub evaluate : ChebyshevOrbit → ℤ → Outcome Motion
evaluate m t = outcome (first_failing (evaluation_checks t)) (motion_at m t)

-- checks 1, 4, 5, 6, 16, then 8. Request 2.6: "Propagation says beside its position" where the instant lies
abbrev pub propagate_ecef : List ℤ → List Float → ℤ → Seconds → Outcome (Located Motion)
propagate_ecef instants positions t tolerance =
    unless_refused (first_failing (propagation_checks instants positions t tolerance)) (mapped (located instants t) (propagated tolerance instants positions t))
