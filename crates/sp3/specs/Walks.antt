-- Inner: what the functions behind the entry work out: the lines of a body, one after the other.
use Rattle.std.specs.Prelude.{ℕ, ◌+◌, Bool, true, false, cond, not, ◌&&◌, ◌||◌, Option, None, Some, List, [], ◌∷◌, ◌++◌, map, ℤ, pos, length, take, drop, Float}
use Rattle.sp3.specs.declared.header.TimeSystem.{TimeSystem}
use Rattle.units.specs.declared.Nanoseconds.{Nanoseconds}
use Rattle.sp3.specs.declared.line.Line.{Line}
use Rattle.sp3.specs.declared.line.Line.TheVariants.{Epoch, Wrong}
use Rattle.sp3.specs.Lines.{lines}
use Rattle.sp3.specs.Columns.{line_of}
use Rattle.sp3.specs.Records.{Kept, body, is_wrong, is_epoch, is_position, faulty, kept}
use Rattle.sp3.specs.Entries.{is_missing, is_other, unfit}

-- some values put at a place of an area, the rest of it untouched
abbrev pub put_at : {A : Type 0} → ℕ → List A → List A → List A
put_at at values old = take at old ++ (values ++ drop (at + length values) old)

-- an epoch line by its instant, if it has one
abbrev pub epoch_told : Option Nanoseconds → Line
epoch_told None = Wrong
epoch_told (Some t) = Epoch t

-- whether an epoch line has stood, at a line or before it
abbrev pub begun : Line → Bool → Bool
begun l b = is_epoch l || b

-- whether a line is not by the description, or is a P line of the satellite and no epoch line stood before it, which b says
abbrev pub fault_at : Line → Bool → Bool
fault_at l b = is_wrong l || (is_position l && not b)

-- whether one of some lines is
unfoldable pub any_fault_from : Bool → List Line → Bool
any_fault_from b [] = false
any_fault_from b (l ∷ ls) = cond (fault_at l b) true (any_fault_from (begun l b) ls)

-- what the lines of a body say, up to one that begins EOF
abbrev pub said_in : TimeSystem → List ℕ → List ℕ → List Line
said_in system satellite bytes = map (line_of system satellite) (body (lines bytes))

-- the records that are kept of them
abbrev pub kept_in : TimeSystem → List ℕ → List ℕ → List Kept
kept_in system satellite bytes = kept (pos 0) (said_in system satellite bytes)

-- how many records a look over lines finds, by what they say; none if one is not by the description
abbrev pub looked_at : List Line → Option ℕ
looked_at ls = cond (faulty ls) None (Some (length (kept (pos 0) ls)))

-- the refusal of a file whose header's lines begin as they must, by what the look found
abbrev pub refusal_by : TimeSystem → Option ℕ → List ℤ → List Float → ℕ
refusal_by system None is ps = 11
refusal_by system (Some n) is ps = cond (is_missing system) 11 (cond (is_other system) 12 (cond (unfit n is ps) 13 0))
