-- `find_pca_time`: the least squared range by minutes, then by seconds. Offsets are whole seconds, the instants nanoseconds.
use Rattle.std.specs.Prelude.{ℕ, ◌*◌, Bool, List, ℤ, pos, neg_ℤ, ◌+ℤ◌, ◌*ℤ◌, Float}
use Rattle.std.specs.Float.{nan}
use Rattle.std.specs.Float.Ieee.{lt}
use Rattle.common.specs.Rounded.{◌⊕◌, ◌⊖◌, ◌⊗◌}
use Rattle.common.specs.Numbers.{largest_finite}
use Rattle.common.specs.Time.{second}
use Rattle.common.specs.Lists.{list_of}
use Rattle.common.specs.Search.{first_best}
use Rattle.units.specs.declared.Seconds.{Seconds}
use Rattle.units.specs.declared.Position.{Position}
use Rattle.units.specs.declared.Observer.{Observer}
use Rattle.common.specs.Outcome.{Outcome, refused, answered, outcome}
use Rattle.checks.specs.Entries.{first_failing, closest_checks}
use Rattle.orbit.specs.declared.closest.Offsets.{Offsets}
use Rattle.orbit.specs.declared.closest.LeastRange.{LeastRange}
use Rattle.orbit.specs.declared.place.Located.{Located}
use Rattle.orbit.specs.declared.propagation.Motion.{Motion}
use Rattle.orbit.specs.Place.{located}
use Rattle.orbit.specs.Propagation.{propagated}

-- a number times itself
abbrev pub squared : Float → Float
squared r = r ⊗ r

-- the squared distance from the observer, in square metres: (rx·rx + ry·ry) + rz·rz, each operation rounded once
abbrev pub squared_range : Observer → Position → Float
squared_range o p = squared (p.x ⊖ o.x.0) ⊕ squared (p.y ⊖ o.y.0) ⊕ squared (p.z ⊖ o.z.0)

-- an instant moved by whole seconds
abbrev pub moved_by_seconds : ℤ → ℤ → ℤ
moved_by_seconds t offset = t +ℤ offset *ℤ pos second

-- the squared range that a propagation answers; an instant without a position has none: NaN, which is below nothing
abbrev pub range_in : Observer → Outcome Motion → Float
range_in o (refused n) = nan
range_in o (answered m) = squared_range o m.position

-- its squared range is below the other's
abbrev pub nearer : LeastRange → LeastRange → Bool
nearer a b = lt a.range b.range

-- a stage begins with its centre: "Only squared ranges below the largest finite double count; a stage without one keeps its centre"
abbrev pub centred : ℤ → LeastRange
centred offset = record { range = largest_finite; offset = offset }

-- "over −50 to 50 minutes by minutes", in seconds
abbrev pub minutes : Offsets
minutes = record { first = neg_ℤ (pos 3000); step = 60; count = 101 }

-- "then ±60 s by seconds", about a centre
abbrev pub seconds_about : ℤ → Offsets
seconds_about centre = record { first = centre +ℤ neg_ℤ (pos 60); step = 1; count = 121 }

-- the offset k steps after the first
abbrev pub offset_at : Offsets → ℕ → ℤ
offset_at f k = f.first +ℤ pos (f.step * k)

module _ (tolerance : Seconds) (instants : List ℤ) (positions : List Float) (o : Observer) (around : ℤ) where
  -- an offset, and the squared range at the instant moved by it
  abbrev pub ranged : ℤ → LeastRange
  ranged offset = record { range = range_in o (propagated tolerance instants positions (moved_by_seconds around offset)); offset = offset }

  -- the same of the offset k steps after the first
  abbrev pub ranged_at : Offsets → ℕ → LeastRange
  ranged_at f k = ranged (offset_at f k)

  -- all of a stage, in order
  abbrev pub ranges : Offsets → List LeastRange
  ranges f = list_of (ranged_at f) f.count 0

  -- "Least squared range over −50 to 50 minutes by minutes"; "first of equals"; the centre "at first is the given instant"
  abbrev pub by_minutes : LeastRange
  by_minutes = first_best nearer (centred (pos 0)) (ranges minutes)

  -- "then ±60 s by seconds"
  abbrev pub by_seconds : LeastRange
  by_seconds = let centre = by_minutes.offset in first_best nearer (centred centre) (ranges (seconds_about centre))

  -- the instant of the nearest, in nanoseconds
  abbrev pub closest_instant : ℤ
  closest_instant = moved_by_seconds around by_seconds.offset

-- ---- the entry: checks 1, 4, 5, 6, 16, never 8

-- the refusal, or that instant. Request 2.6: "Closest approach says it of the instant it answers"
abbrev pub find_pca_time : List ℤ → List Float → Observer → ℤ → Seconds → Outcome (Located ℤ)
find_pca_time instants positions o t tolerance =
    let found = closest_instant tolerance instants positions o t in
    outcome (first_failing (closest_checks instants positions o t tolerance)) (located instants found found)
