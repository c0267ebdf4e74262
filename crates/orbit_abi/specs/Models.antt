-- A model as C lends it: 32 doubles, t0, t9, then ten coefficients each of x, y and z; and a motion: position and velocity, x, y, z each;
-- and a report: clock offset, frequency offset, RMSE; and whether its instant is the fallback, and where an instant lies, as numbers.
-- Assumes nothing.
use Rattle.std.specs.Prelude.{ℕ, ◌-◌, cond, List, [], ◌∷◌, ltb, ℤ, get_or, Float}
use Rattle.std.specs.Float.{nan}
use Rattle.common.specs.Lists.{list_of}
use Rattle.units.specs.declared.Metres.{Metres}
use Rattle.units.specs.declared.Seconds.{Seconds}
use Rattle.units.specs.declared.Hertz.{Hertz}
use Rattle.units.specs.declared.Observer.{Observer}
use Rattle.orbit.specs.declared.fit.Report.{Report}
use Rattle.orbit.specs.declared.place.Place.{Place}
use Rattle.orbit.specs.declared.place.Place.TheVariants.{Before, Within, After}
use Rattle.orbit.specs.declared.window.ChebyshevOrbit.{ChebyshevOrbit}
use Rattle.orbit.specs.declared.propagation.Motion.{Motion}
use Rattle.orbit.specs.Residuals.{Inputs, settings_of, inputs_of}
use Rattle.orbit_abi.specs.Areas.{row_from}

-- number k of the 32
abbrev pub model_number : ChebyshevOrbit → ℕ → Float
model_number m k =
    cond (ltb k 1) m.t0.0
    (cond (ltb k 2) m.t9.0
    (cond (ltb k 12) (get_or m.cx (k - 2) nan)
    (cond (ltb k 22) (get_or m.cy (k - 12) nan) (get_or m.cz (k - 22) nan))))

-- all of them
abbrev pub model_numbers : ChebyshevOrbit → List Float
model_numbers m = list_of (model_number m) 32 0

-- the model that 32 numbers stand for
abbrev pub model_in : List Float → ChebyshevOrbit
model_in xs = record { t0 = record { 0 = get_or xs 0 nan }; t9 = record { 0 = get_or xs 1 nan }; cx = row_from xs 2; cy = row_from xs 12; cz = row_from xs 22 }

-- position and velocity, x, y, z each
abbrev pub motion_numbers : Motion → List Float
motion_numbers m = m.position.x ∷ m.position.y ∷ m.position.z ∷ m.velocity.x ∷ m.velocity.y ∷ m.velocity.z ∷ []

-- before the first coordinate 0, from the first to the last 1, after the last 2
abbrev pub place_number : Place → ℕ
place_number Before = 0
place_number Within = 1
place_number After = 2

-- clock offset in seconds, frequency offset and RMSE in hertz
abbrev pub report_numbers : Report → List Float
report_numbers r = r.clock_offset.0 ∷ r.frequency_offset.0 ∷ r.rmse.0 ∷ []

-- whether its instant is the fallback: 1 yes, 0 no
abbrev pub fallback_number : Report → ℕ
fallback_number r = cond r.fallback 1 0

-- the observer at three lengths
abbrev pub observer_of : Metres → Metres → Metres → Observer
observer_of x y z = record { x = x; y = y; z = z }

-- the inputs of a fit or a pass beside its samples
abbrev pub inputs_in : List ℤ → List Float → Metres → Metres → Metres → Hertz → Seconds → Inputs
inputs_in instants positions x y z f0 tolerance = inputs_of instants positions (settings_of (observer_of x y z) f0 tolerance)
