-- "the first two bytes of the 22 header lines, line 13's time system (columns 10 to 12)"
use Rattle.std.specs.Prelude.{ℕ, ◌-◌, Bool, true, false, cond, ◌&&◌, List, [], ◌∷◌, map, ltb, pos, length, get_or, drop}
use Rattle.units.specs.declared.LeapSeconds.{LeapSeconds}
use Rattle.sp3.specs.declared.header.TimeSystem.{TimeSystem}
use Rattle.sp3.specs.declared.header.TimeSystem.TheVariants.{Less, Other, Missing}
use Rattle.common.specs.Text.{text}
use Rattle.sp3.specs.Lines.{begins}

-- the first two bytes of the header's lines, by the SP3-c description
abbrev pub beginnings : List (List ℕ)
beginnings =
    map text
    ("#c" ∷ "##"
    ∷ "+ " ∷ "+ " ∷ "+ " ∷ "+ " ∷ "+ "
    ∷ "++" ∷ "++" ∷ "++" ∷ "++" ∷ "++"
    ∷ "%c" ∷ "%c" ∷ "%f" ∷ "%f" ∷ "%i" ∷ "%i"
    ∷ "/*" ∷ "/*" ∷ "/*" ∷ "/*" ∷ [])

-- how many lines the header has
abbrev pub header_lines : ℕ
header_lines = length beginnings

-- whether the first lines begin with these, one for each
unfoldable pub headed : List (List ℕ) → List (List ℕ) → Bool
unfolding begins
headed [] ls = true
headed (p ∷ ps) [] = false
headed (p ∷ ps) (l ∷ ls) = begins p l && headed ps ls

-- the line that has the time system
abbrev pub system_line : ℕ
system_line = 13

-- the first of its columns there
abbrev pub system_first : ℕ
system_first = 10

-- the last
abbrev pub system_last : ℕ
system_last = 12

-- no leap seconds
abbrev pub no_leaps : LeapSeconds
no_leaps = record { 0 = pos 0 }

-- the time system in these columns of a line: "UTC is taken as it is; GPS is lessened by a count of leap seconds"; three other bytes, or
-- columns that the line does not have
unfoldable pub system_in : LeapSeconds → List ℕ → TimeSystem
unfolding begins
system_in leaps l =
    cond (ltb (length l) system_last) Missing
    (cond (begins (text "UTC") (drop (system_first - 1) l)) (Less no_leaps)
    (cond (begins (text "GPS") (drop (system_first - 1) l)) (Less leaps) Other))

-- that of a file's lines
abbrev pub system_of : LeapSeconds → List (List ℕ) → TimeSystem
system_of leaps ls = system_in leaps (get_or ls (system_line - 1) [])
