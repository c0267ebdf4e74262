-- What the laws of the reader speak of: the lines joined again, which lines have a position to keep, by the columns alone, and the last epoch line.
use Rattle.std.specs.Prelude.{ℕ, ◌<◌, ◌≡◌, Bool, cond, Option, None, Some, List, [], ◌∷◌, ◌++◌, eqb, ℤ, pos}
use Rattle.std.specs.Float.{binary64}
use Rattle.std.specs.Float.Ieee.{round}
use Rattle.common.specs.Numbers.{nought}
use Rattle.float.specs.Nearness.{IsNearest}
use Rattle.units.specs.declared.Position.{Position}
use Rattle.checks.specs.Checks.{any}
use Rattle.decimal.specs.declared.reading.Number.{Number}
use Rattle.sp3.specs.declared.line.Line.{Line}
use Rattle.common.specs.Text.{text}
use Rattle.sp3.specs.Lines.{line_feed, begins}
use Rattle.sp3.specs.Columns.{coordinate_end, absent, metres_of, steps_in_metre, x_in, y_in, z_in}
use Rattle.sp3.specs.Records.{Kept, instant_after, kept_of}

-- lines joined again, a line feed behind each
unfoldable pub joined : List (List ℕ) → List ℕ
joined [] = []
joined (l ∷ ls) = l ++ (line_feed ∷ joined ls)

-- some bytes behind b, with a line feed at their end if there is none
unfoldable pub closed_after : ℕ → List ℕ → List ℕ
closed_after b [] = cond (eqb b line_feed) [] (line_feed ∷ [])
closed_after b (c ∷ bs) = c ∷ closed_after c bs

-- some bytes so closed; none stay none
abbrev pub closed : List ℕ → List ℕ
closed [] = []
closed (b ∷ bs) = b ∷ closed_after b bs

-- whether a line has a line feed
abbrev pub has_feed : List ℕ → Bool
has_feed l = any (λ b. eqb b line_feed) l

-- the position of three coordinates that are numbers and not all zero
abbrev pub positions_by : Option Number → Option Number → Option Number → List Position
positions_by None fy fz = []
positions_by (Some nx) None fz = []
positions_by (Some nx) (Some ny) None = []
positions_by (Some nx) (Some ny) (Some nz) = cond (absent nx ny nz) [] (record { x = metres_of nx; y = metres_of ny; z = metres_of nz } ∷ [])

-- that of a P line of the satellite
abbrev pub positions_in : List ℕ → List ℕ → List Position
positions_in satellite l = cond (begins (text "P" ++ satellite) l) (positions_by (x_in l) (y_in l) (z_in l)) []

-- those of all lines, in the file's order
unfoldable pub satellite_positions : List ℕ → List (List ℕ) → List Position
satellite_positions satellite [] = []
satellite_positions satellite (l ∷ ls) = positions_in satellite l ++ satellite_positions satellite ls

-- the instant of the last epoch line, or t where there is none
unfoldable pub last_instant : ℤ → List Line → ℤ
last_instant t [] = t
last_instant t (l ∷ ls) = last_instant (instant_after l t) ls

-- the records of the lines B that follow the lines A: each at the instant of the last epoch line of all those before it
unfoldable pub records_after : List Line → List Line → List Kept
records_after A [] = []
records_after A (l ∷ B) = kept_of l (last_instant (pos 0) A) ++ records_after (A ++ (l ∷ [])) B

-- a coordinate's number, in millionths of a kilometre: it has 13 digits at most; it is kept as +0, or rounded with its sign; and no double is nearer to a
-- thousandth of it, in metres
pub record Valued (n : Number) : Type 0 where
  pub small : n.digits < coordinate_end
  pub zero : n.digits ≡ 0 → metres_of n ≡ nought
  pub rounded : (n.digits ≡ 0 → ⊥) → metres_of n ≡ round binary64 n.negative n.digits steps_in_metre
  pub nearest : IsNearest binary64 n.digits steps_in_metre (metres_of n)
