-- The residuals of a recording under a shift of its clock, and their means; and how many of its instants lie outside the table then. Instants are
-- nanoseconds, shifts seconds, frequencies hertz.
use Rattle.std.specs.Prelude.{ℕ, Bool, List, [], ◌∷◌, ℤ, pos, ◌-ℤ◌, ◌*ℤ◌, length, Float}
use Rattle.std.specs.Float.{binary64}
use Rattle.common.specs.Rounded.{◌⊕◌, ◌⊖◌, ◌⊗◌, ◌⊘◌}
use Rattle.common.specs.Numbers.{minus_zero, one, million, light_speed}
use Rattle.common.specs.Sums.{sum_from}
use Rattle.common.specs.Time.{microsecond}
use Rattle.common.specs.Lists.{how_many}
use Rattle.float.specs.Root.{root}
use Rattle.float.specs.Conversions.{nearest_of, truncated_of}
use Rattle.units.specs.declared.Seconds.{Seconds}
use Rattle.units.specs.declared.Hertz.{Hertz}
use Rattle.units.specs.declared.Observer.{Observer}
use Rattle.units.specs.declared.Settings.{Settings}
use Rattle.common.specs.Outcome.{Outcome, refused, answered}
use Rattle.samples.specs.Means.{Sample}
use Rattle.orbit.specs.Place.{place_of, is_outside}
use Rattle.orbit.specs.declared.propagation.Motion.{Motion}
use Rattle.orbit.specs.Propagation.{propagated}
use Rattle.orbit.specs.Closest.{squared, squared_range}

-- the settings by their parts
abbrev pub settings_of : Observer → Hertz → Seconds → Settings
settings_of observer f0 tolerance = record { observer = observer; f0 = f0; tolerance = tolerance }

-- "its other inputs are coordinate instants and positions, observer and centre frequency", and with request 2.7 the tolerance
pub record Inputs : Type 0 where
  pub instants : List ℤ
  pub positions : List Float
  pub settings : Settings

-- the inputs by their parts
abbrev pub inputs_of : List ℤ → List Float → Settings → Inputs
inputs_of instants positions settings = record { instants = instants; positions = positions; settings = settings }

-- an instant propagated by them
abbrev pub propagated_by : Inputs → ℤ → Outcome Motion
propagated_by i t = propagated i.settings.tolerance i.instants i.positions t

-- ---- a sample under a shift

-- a shift "in whole microseconds", toward zero
abbrev pub whole_microseconds : Float → ℤ
whole_microseconds shift = truncated_of (shift ⊗ million)

-- "A candidate moves each sample earlier by its shift in whole microseconds"
abbrev pub moved : ℤ → Float → ℤ
moved t shift = t -ℤ whole_microseconds shift *ℤ pos microsecond

-- whether an instant, so moved, "lies outside" a table whose coordinates have these instants
abbrev pub lies_outside : List ℤ → Float → ℤ → Bool
lies_outside coordinates shift t = is_outside (place_of coordinates (moved t shift))

-- how many instants of samples or means lie outside once a shift has moved them, whether they have a position there or not
abbrev pub outside_count : List ℤ → List ℤ → Float → ℕ
outside_count coordinates ts shift = how_many (lies_outside coordinates shift) ts

-- how fast the range grows, in metres for each second; a zero range makes a NaN
abbrev pub range_rate : Observer → Motion → Float
range_rate o m =
    let p = m.position in
    let v = m.velocity in
    ((p.x ⊖ o.x.0) ⊗ v.x ⊕ (p.y ⊖ o.y.0) ⊗ v.y ⊕ (p.z ⊖ o.z.0) ⊗ v.z) ⊘ root binary64 (squared_range o p)

-- what the measured frequency has over the one that the centre frequency becomes at that rate
abbrev pub residual_at : Settings → Float → Motion → Float
residual_at s frequency m = frequency ⊖ s.f0.0 ⊗ (one ⊖ range_rate s.observer m ⊘ light_speed)

-- "samples without a position are skipped"
pub data Residual : Type 0 where
  skipped : Residual
  residual : Float → Residual

-- the residual of a frequency, by what its propagation gives
abbrev pub residual_in : Settings → Float → Outcome Motion → Residual
residual_in s frequency (refused n) = skipped
residual_in s frequency (answered m) = residual (residual_at s frequency m)

-- the residual of a sample under a shift
abbrev pub residual_of : Inputs → Float → Sample → Residual
residual_of i shift x = residual_in i.settings x.frequency (propagated_by i (moved x.instant shift))

-- ---- what is left of the samples

-- one residual more in front, where it is left
abbrev pub keep : Residual → List Float → List Float
keep skipped ys = ys
keep (residual y) ys = y ∷ ys

-- the residuals that are left, in order
unfoldable pub residuals : (Sample → Residual) → List Sample → List Float
residuals f [] = []
residuals f (x ∷ xs) = keep (f x) (residuals f xs)

-- "These two sums start at −0.0, as Rust's `sum` does"
unfoldable pub mean_over : List Float → Float
mean_over ys = sum_from minus_zero ys ⊘ nearest_of (pos (length ys))

-- the squared deviation of y from the mean, (y − mean) × (y − mean)
unfoldable pub squared_deviation : Float → Float → Float
squared_deviation mean y = squared (y ⊖ mean)
