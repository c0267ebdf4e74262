-- What the lines behind the header say together: which are not by the description, and the records that are kept.
use Rattle.std.specs.Prelude.{ℕ, Bool, true, false, cond, ◌||◌, List, [], ◌∷◌, ◌++◌, map, ℤ, Float}
use Rattle.units.specs.declared.Position.{Position}
use Rattle.checks.specs.Checks.{any}
use Rattle.sp3.specs.declared.line.Line.{Line}
use Rattle.sp3.specs.declared.line.Line.TheVariants.{Epoch, Located, Absent, Wrong, PassedOver}
use Rattle.common.specs.Text.{text}
use Rattle.sp3.specs.Lines.{begins}

-- "up to a line that begins EOF or the slice's end"
unfoldable pub body : List (List ℕ) → List (List ℕ)
unfolding begins
body [] = []
body (l ∷ ls) = cond (begins (text "EOF") l) [] (l ∷ body ls)

-- whether a line is not by the description
abbrev pub is_wrong : Line → Bool
is_wrong (Epoch t) = false
is_wrong (Located p) = false
is_wrong Absent = false
is_wrong Wrong = true
is_wrong PassedOver = false

-- whether it is an epoch line by the description
abbrev pub is_epoch : Line → Bool
is_epoch (Epoch t) = true
is_epoch (Located p) = false
is_epoch Absent = false
is_epoch Wrong = false
is_epoch PassedOver = false

-- whether it is a P line of the satellite by the description
abbrev pub is_position : Line → Bool
is_position (Epoch t) = false
is_position (Located p) = true
is_position Absent = true
is_position Wrong = false
is_position PassedOver = false

-- the lines ahead of the first epoch line
unfoldable pub untimed : List Line → List Line
untimed [] = []
untimed (l ∷ ls) = cond (is_epoch l) [] (l ∷ untimed ls)

-- a line is not by the description, or is a P line of the satellite, "none of which may stand before the first epoch"
abbrev pub faulty : List Line → Bool
faulty ls = any is_wrong ls || any is_position (untimed ls)

-- a record of the satellite: its instant in nanoseconds, and its position
pub record Kept : Type 0 where
  pub instant : ℤ
  pub position : Position

-- the instant of an epoch line, and behind any other line the one before it
abbrev pub instant_after : Line → ℤ → ℤ
instant_after (Epoch u) t = u.0
instant_after (Located p) t = t
instant_after Absent t = t
instant_after Wrong t = t
instant_after PassedOver t = t

-- the record of one line, where t is the instant of the last epoch line
abbrev pub kept_of : Line → ℤ → List Kept
kept_of (Epoch u) t = []
kept_of (Located p) t = record { instant = t; position = p } ∷ []
kept_of Absent t = []
kept_of Wrong t = []
kept_of PassedOver t = []

-- the records of some lines, in their order
unfoldable pub kept : ℤ → List Line → List Kept
kept t [] = []
kept t (l ∷ ls) = kept_of l t ++ kept (instant_after l t) ls

-- their instants
abbrev pub instants_of : List Kept → List ℤ
instants_of K = map (λ (k : Kept). k.instant) K

-- their positions, three doubles for each, in metres
unfoldable pub positions_of : List Kept → List Float
positions_of [] = []
positions_of (k ∷ K) = k.position.x ∷ k.position.y ∷ k.position.z ∷ positions_of K
