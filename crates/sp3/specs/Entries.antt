-- The entry: its refusals in their order, its answer, and what the two areas hold afterwards.
use Rattle.std.specs.Prelude.{ℕ, ◌*◌, Bool, true, false, not, ◌||◌, List, [], ◌∷◌, map, eqb, ltb, ℤ, pos, length, drop, Float}
use Rattle.common.specs.Outcome.{Outcome, outcome, area}
use Rattle.units.specs.declared.LeapSeconds.{LeapSeconds}
use Rattle.checks.specs.Limits.{axes}
use Rattle.checks.specs.Entries.{check, first_failing}
use Rattle.sp3.specs.declared.header.TimeSystem.{TimeSystem}
use Rattle.sp3.specs.declared.header.TimeSystem.TheVariants.{Less, Other, Missing}
use Rattle.sp3.specs.declared.line.Line.{Line}
use Rattle.sp3.specs.Lines.{lines}
use Rattle.sp3.specs.Header.{beginnings, header_lines, headed, system_of}
use Rattle.sp3.specs.Columns.{line_of}
use Rattle.sp3.specs.Records.{Kept, body, faulty, kept, instants_of, positions_of}

-- what the lines behind the header say, up to one that begins EOF
abbrev pub said : TimeSystem → List ℕ → List (List ℕ) → List Line
said system satellite ls = map (line_of system satellite) (body (drop header_lines ls))

-- the records kept of a file's lines; where 11 does not refuse, each stands behind an epoch line, so that this 0 is no record's instant
abbrev pub records_in : TimeSystem → List ℕ → List (List ℕ) → List Kept
records_in system satellite ls = kept (pos 0) (said system satellite ls)

-- whether line 13 does not have the columns of the time system
abbrev pub is_missing : TimeSystem → Bool
is_missing (Less leaps) = false
is_missing Other = false
is_missing Missing = true

-- whether they hold "three bytes other than UTC or GPS"
abbrev pub is_other : TimeSystem → Bool
is_other (Less leaps) = false
is_other Other = true
is_other Missing = false

-- "11 in what is looked at, a header, epoch or P line not by the description"
abbrev pub undescribed : TimeSystem → List ℕ → List (List ℕ) → Bool
undescribed system satellite ls = not (headed beginnings ls) || is_missing system || faulty (said system satellite ls)

-- "13 no record kept or an area too short for those kept"
abbrev pub unfit : ℕ → List ℤ → List Float → Bool
unfit n is ps = eqb n 0 || ltb (length is) n || ltb (length ps) (axes * n)

-- the refusals "in this order": the number of the first that holds, or 0
abbrev pub first_refusal : TimeSystem → List ℕ → List (List ℕ) → List ℤ → List Float → ℕ
first_refusal system satellite ls is ps =
    first_failing
    (check 11 (undescribed system satellite ls)
    ∷ check 12 (is_other system)
    ∷ check 13 (unfit (length (records_in system satellite ls)) is ps)
    ∷ [])

-- the records kept of a file, for a satellite and a count of leap seconds
abbrev pub records_of : List ℕ → List ℕ → LeapSeconds → List Kept
records_of bytes satellite leaps = records_in (system_of leaps (lines bytes)) satellite (lines bytes)

-- the refusal of a file, with the two areas
abbrev pub sp3_refusal : List ℕ → List ℕ → LeapSeconds → List ℤ → List Float → ℕ
sp3_refusal bytes satellite leaps is ps = first_refusal (system_of leaps (lines bytes)) satellite (lines bytes) is ps

-- "answers how many"
abbrev pub read_sp3 : List ℕ → List ℕ → LeapSeconds → List ℤ → List Float → Outcome ℕ
read_sp3 bytes satellite leaps is ps = outcome (sp3_refusal bytes satellite leaps is ps) (length (records_of bytes satellite leaps))

-- what the area for instants holds afterwards
abbrev pub sp3_instants : List ℕ → List ℕ → LeapSeconds → List ℤ → List Float → List ℤ
sp3_instants bytes satellite leaps is ps = area (sp3_refusal bytes satellite leaps is ps) (instants_of (records_of bytes satellite leaps)) is

-- what the area for positions holds afterwards
abbrev pub sp3_positions : List ℕ → List ℕ → LeapSeconds → List ℤ → List Float → List Float
sp3_positions bytes satellite leaps is ps = area (sp3_refusal bytes satellite leaps is ps) (positions_of (records_of bytes satellite leaps)) ps
