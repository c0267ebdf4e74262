-- `estimate_slant_range`: f0·7585²/(299792458·|slope|), in metres.
use Rattle.std.specs.Prelude.{false, cond, pos, Float}
use Rattle.std.specs.Float.{fin}
use Rattle.std.specs.Float.Ieee.{lt}
use Rattle.common.specs.Numbers.{tenth, light_speed}
use Rattle.common.specs.Rounded.{◌⊗◌, ◌⊘◌}
use Rattle.float.specs.Signs.{magnitude_of}

-- 7585 m/s, the speed of the satellite
abbrev pub satellite_speed : Float
satellite_speed = fin false 7585 (pos 0)

-- 0.1 Hz/s
abbrev pub least_steepness : Float
least_steepness = tenth

-- 2,000,000 m = 15625 * 2 ^ 7
abbrev pub fallback_range : Float
fallback_range = fin false 15625 (pos 7)

-- "in the Rust's order if |slope| > 0.1, else 2,000,000"
abbrev pub estimate_slant_range : Float → Float → Float
estimate_slant_range f0 slope =
    cond (lt least_steepness (magnitude_of slope))
    (f0 ⊗ satellite_speed ⊗ satellite_speed ⊘ (light_speed ⊗ magnitude_of slope))
    fallback_range
