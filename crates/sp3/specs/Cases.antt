-- Cases by computation: a small file whole, and single lines. Each says what the definition gives.
use Rattle.std.specs.Prelude.{ℕ, ◌≡◌, refl, true, false, List, [], ◌∷◌, ◌++◌, ℤ, pos, negsuc, replicate, Float}
use Prim.Native.String.{String}
use Rattle.std.specs.Float.{fin}
use Rattle.std.specs.Float.Ieee.{span, climb, size, odd, units, round}
use Rattle.common.specs.Numbers.{nought}
use Rattle.units.specs.declared.LeapSeconds.{LeapSeconds}
use Rattle.checks.specs.Entries.{first_failing}
use Rattle.decimal.specs.Reading.{after_blanks, digits_behind, some_digits, signed_digits, with_decimals}
use Rattle.calendar.specs.Gregorian.{leap, sum, days_of_years}
use Rattle.sp3.specs.declared.line.Line.{Line}
use Rattle.sp3.specs.declared.line.Line.TheVariants.{Wrong, PassedOver}
use Rattle.sp3.specs.declared.header.TimeSystem.TheVariants.{Less}
use Rattle.common.specs.Text.{text}
use Rattle.sp3.specs.Lines.{line_feed, lines, begins}
use Rattle.sp3.specs.Header.{headed, system_in}
use Rattle.sp3.specs.Columns.{epoch_in, position_in, line_of}
use Rattle.sp3.specs.Records.{Kept, body, untimed, kept}
use Rattle.sp3.specs.Entries.{records_of, sp3_refusal}

-- an empty line counts; behind the last line feed there is no line where there are no bytes; the last line needs no line feed
pub split : (lines (text "ab\n\nc\n") ≡ text "ab" ∷ [] ∷ text "c" ∷ []) × (lines (text "ab\n\nc") ≡ text "ab" ∷ [] ∷ text "c" ∷ [])
unfolding lines
split = (refl, refl)

-- the bytes of some rows
abbrev file : List String → List ℕ
file [] = []
file (s ∷ ss) = text s ++ (line_feed ∷ file ss)

-- a header whose line 13 is given, ahead of some rows
abbrev under : String → List String → List String
under s rows =
    "#cP2024" ∷ "## 2295" ∷ "+    1   G05" ∷ "+ " ∷ "+ " ∷ "+ " ∷ "+ " ∷ "++" ∷ "++" ∷ "++" ∷ "++" ∷ "++"
    ∷ s ∷ "%c" ∷ "%f" ∷ "%f" ∷ "%i" ∷ "%i" ∷ "/*" ∷ "/*" ∷ "/*" ∷ "/*" ∷ rows

-- two epochs; another satellite, a position of three zeros and a V line among the records; nothing behind EOF is looked at
abbrev rows : List String
rows =
    "*  2024  1  1  0  0  0.00000000"
    ∷ "PG04  whatever"
    ∷ "PG05  26560.000000     -0.001000      0.000000"
    ∷ "*  2024  1  1  0 15  0.50000000"
    ∷ "PG05      0.000000     -0.000000      0.000000"
    ∷ "VG05"
    ∷ "PG05     -0.000001      1.500000      0.000000"
    ∷ "EOF"
    ∷ "PG05"
    ∷ []

-- the same rows in GPS time
abbrev in_gps : List String
in_gps = under "%c G  cc GPS ccc" rows

-- in UTC
abbrev in_utc : List String
in_utc = under "%c G  cc UTC" rows

-- in another time system
abbrev in_bdt : List String
in_bdt = under "%c C  cc BDT ccc" rows

-- under a line 13 that is too short
abbrev in_none : List String
in_none = under "%c G  cc GP" rows

-- behind a P line of the satellite
abbrev early : List String
early = under "%c C  cc BDT ccc" ("PG05      0.000000      0.000000      0.000000" ∷ rows)

-- 18 leap seconds
abbrev leaps : LeapSeconds
leaps = record { 0 = pos 18 }

-- a record by its four numbers
abbrev kept4 : ℤ → Float → Float → Float → Kept
kept4 t px py pz = record { instant = t; position = record { x = px; y = py; z = pz } }

-- the two records kept: 26,560 km, −1 m and +0; −1 mm (the double nearest −0.001), 1.5 km and +0; 18 leap seconds before their epochs' labels
pub two_kept : records_of (file in_gps) (text "G05") leaps
    ≡ kept4 (pos 1704067182000000000) (fin false 51875 (pos 9)) (fin true 1 (pos 0)) nought
    ∷ kept4 (pos 1704068082500000000) (fin true 1152921504606847 (negsuc 59)) (fin false 375 (pos 2)) nought
    ∷ []
unfolding lines begins system_in body line_of epoch_in position_in kept
    after_blanks digits_behind some_digits signed_digits with_decimals leap sum days_of_years span climb size odd units round
two_kept = refl

-- the refusal of a file, with an area for two instants and one for so many numbers of positions
abbrev refused_at : List String → String → ℕ → ℕ
refused_at ss satellite n = sp3_refusal (file ss) (text satellite) leaps (replicate 2 (pos 0)) (replicate n nought)

-- room for both records, and an area too short; under UTC; another satellite; another time system; none; a P line too early; EOF in the header
pub refusals : (refused_at in_gps "G05" 6 ≡ 0) × (refused_at in_gps "G05" 5 ≡ 13) × (refused_at in_utc "G05" 6 ≡ 0) × (refused_at in_utc "G06" 6 ≡ 13)
    × (refused_at in_bdt "G05" 6 ≡ 12) × (refused_at in_none "G05" 6 ≡ 11) × (refused_at early "G05" 6 ≡ 11)
    × (refused_at ("#c" ∷ "##" ∷ "EOF" ∷ []) "G05" 6 ≡ 11)
unfolding lines begins system_in headed body line_of epoch_in position_in untimed first_failing kept
    after_blanks digits_behind some_digits signed_digits with_decimals leap sum days_of_years span climb size odd units round
refusals = (refl, refl, refl, refl, refl, refl, refl, refl)

-- what a line says, for the satellite G05
abbrev of_g05 : String → Line
of_g05 s = line_of (Less leaps) (text "G05") (text s)

-- the 30th of February, a second of 60, an instant beyond check 4, a point one column early, a blank behind the minus, a number cut short, no number
pub wrong : (of_g05 "*  2024  2 30  0  0  0.00000000" ≡ Wrong) × (of_g05 "*  2024  1  1  0  0 60.00000000" ≡ Wrong)
    × (of_g05 "*  2097  1  1  0  0  0.00000000" ≡ Wrong) × (of_g05 "PG05     1.0000000      0.000000      0.000000" ≡ Wrong)
    × (of_g05 "PG05    - 1.000000      0.000000      0.000000" ≡ Wrong) × (of_g05 "PG05      1.000000      0.000000      0.00000" ≡ Wrong)
    × (of_g05 "PG05" ≡ Wrong)
unfolding begins line_of epoch_in position_in after_blanks digits_behind some_digits signed_digits with_decimals
    leap sum days_of_years span climb size odd units round
wrong = (refl, refl, refl, refl, refl, refl, refl)

-- a P line too short for a satellite, another satellite's, an empty line, and a correlation line
pub passed : (of_g05 "PG0" ≡ PassedOver) × (of_g05 "PG06 *" ≡ PassedOver) × (of_g05 "" ≡ PassedOver) × (of_g05 "EPG05" ≡ PassedOver)
unfolding begins line_of
passed = (refl, refl, refl, refl)
