-- Inner: how far the search goes, so that every number fits its machine number.
use Rattle.std.specs.Prelude.{ℕ, ◌+◌, ◌*◌, ◌≤◌, nat_abs, Float}
use Rattle.std.specs.Float.{nan, inf, fin}
use Rattle.std.specs.Coded.{le_prop}
use Rattle.float.specs.Bounds.{Within}
use Rattle.orbit.specs.declared.closest.Offsets.{Offsets}
use Rattle.orbit.specs.declared.stages.Stage.{Stage}

-- any offset of the search for the closest approach, in whole seconds
abbrev pub farthest_offset : ℕ
farthest_offset = 10000

-- the centre of the shifts, in seconds
abbrev pub farthest_centre : ℕ
farthest_centre = 10001

-- the best coarse shift, in seconds
abbrev pub farthest_coarse : ℕ
farthest_coarse = 10400

-- the best shift of the coarse and the fine stage, in seconds
abbrev pub farthest_fine : ℕ
farthest_fine = 10800

-- the start of a stage, in seconds
abbrev pub farthest_start : ℕ
farthest_start = 12000

-- the steps of a stage
abbrev pub most_steps : ℕ
most_steps = 301

-- any shift, in seconds
abbrev pub farthest_shift : ℕ
farthest_shift = 20000

-- any shift, in microseconds
abbrev pub farthest_micros : ℕ
farthest_micros = 20000000000

-- how far the offsets of a stage may be off 0, in whole seconds
abbrev pub reach : Offsets → ℕ
reach f = nat_abs f.first + f.step * f.count

-- a stage whose start, increment and steps are so small that its shifts are
pub record SmallStage (s : Stage) : Type 0 where
  pub start : Within farthest_start s.start.0
  pub increment : Within 1 s.increment.0
  pub steps : s.steps ≤ most_steps

-- a double is that small in one way at most, so a ghost field may hold the fact
pub Within-prop : (n : ℕ) (x : Float) → IsProp (Within n x)
Within-prop n nan = λ h k. absurd h
Within-prop n (inf s) = λ h k. absurd h
Within-prop n (fin s m e) = le_prop
