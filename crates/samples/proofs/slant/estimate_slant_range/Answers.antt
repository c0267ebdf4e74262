-- The magnitude is the slope's, and the test of it the definition's, so each branch is the definition's. Assumes nothing.
use mathlib.Core.Path.{sym, ap, ◌∙◌}
use mathlib.Core.Bool.{Bool, cond}
use lib.Ieee.{Float, binary64, mul, div, lt, of_bits}
use Rattle.common.specs.Numbers.{light_speed}
use Rattle.samples.specs.Slant.{satellite_speed, least_steepness, fallback_range}
use Rattle.samples.proofs.slant.estimate_slant_range.Goals as goal

-- the range of a slope over the least, by its magnitude
abbrev far : Float → Float → Float
far f0 steepness = div binary64 (mul binary64 (mul binary64 f0 satellite_speed) satellite_speed) (mul binary64 light_speed steepness)

-- the range, by whether it is, and by the magnitude
abbrev either : Float → Float → Bool → Float
either f0 steepness b = cond b (far f0 steepness) fallback_range

abbrev range : Float → Float → Float
range f0 steepness = either f0 steepness (lt least_steepness steepness)

pub returns-then-steepness : goal.returns-then-steepness
unfolding of_bits
returns-then-steepness c =
    let m = c.magnitude-steepness in
    let f0 = c.args.f0.0 in
    ap (either f0 m.result) (sym c.if-steepness.true) ∙ ap (range f0) m.ensures

pub returns : goal.returns
unfolding of_bits
returns c =
    let m = c.magnitude-steepness in
    let f0 = c.args.f0.0 in
    ap (either f0 m.result) (sym c.if-steepness.false) ∙ ap (range f0) m.ensures
