-- Document 02, request 2.5: the refusals of the board, and its clock offset in seconds.
use Rattle.std.specs.Prelude.{ℕ, Bool, ◌||◌, List, [], ◌∷◌, map, ltb, eqb, pos, length, Float}
use Rattle.common.specs.Rounded.{◌⊘◌}
use Rattle.common.specs.Numbers.{nought}
use Rattle.common.specs.Sums.{sum_from}
use Rattle.common.specs.Outcome.{Outcome, outcome}
use Rattle.float.specs.Conversions.{nearest_of}
use Rattle.checks.specs.Checks.{any, not_finite}
use Rattle.checks.specs.Entries.{Check, check, first_failing}
use Rattle.orbit.specs.declared.fit.Report.{Report}
use Rattle.board.specs.declared.entries.Entry.{Entry}
use Rattle.board.specs.declared.superseding.Placed.{Placed}
use Rattle.board.specs.Superseding.{survivors}

-- "a satellite number (16 bits), a measured instant and the three doubles of a report"
abbrev pub entry_of : ℕ → Report → Entry
entry_of satellite r = record {
  satellite = satellite;
  instant = r.approach;
  clock_offset = r.clock_offset;
  frequency_offset = r.frequency_offset;
  rmse = r.rmse;
}

-- "It takes up to 64 entries"
abbrev pub most_entries : ℕ
most_entries = 64

-- "14 no entry or over 64", of so many entries
abbrev pub entries_miscounted : ℕ → Bool
entries_miscounted n = eqb n 0 || ltb most_entries n

-- "15 a double in an entry not finite", of one entry
abbrev pub entry_not_finite : Entry → Bool
entry_not_finite e = not_finite e.clock_offset.0 || not_finite e.frequency_offset.0 || not_finite e.rmse.0

-- the refusals "in this order", of so many entries, one of which has a double that is not finite or none has
abbrev pub board_checks : ℕ → Bool → List Check
board_checks n spoiled = check 14 (entries_miscounted n) ∷ check 15 spoiled ∷ []

-- the number of the first that fails, 0 where none does
abbrev pub board_refusal : List Entry → ℕ
board_refusal es = first_failing (board_checks (length es) (any entry_not_finite es))

-- the clock offset of an entry, in seconds, and those of some
abbrev pub clock_offset : Placed → Float
clock_offset p = p.entry.clock_offset.0

abbrev pub clock_offsets : List Placed → List Float
clock_offsets ps = map clock_offset ps

-- "the mean of the survivors, summed in list order from 0.0 and divided by their count"
unfoldable pub board_offset : List Entry → Float
board_offset es = let S = survivors es in sum_from nought (clock_offsets S) ⊘ nearest_of (pos (length S))

-- the refusal, or the board's clock offset
abbrev pub fleet_board : List Entry → Outcome Float
fleet_board es = outcome (board_refusal es) (board_offset es)
