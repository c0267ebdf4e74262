-- Cases by computation. Each says what the definition gives.
use Rattle.std.specs.Prelude.{ℕ, ◌≡◌, refl, true, false, [], ◌∷◌, ℤ, pos, negsuc, length, replicate, Float}
use Rattle.std.specs.Float.{nan, inf, fin}
use Rattle.std.specs.Float.Ieee.{lt, eq, neg, add, div, of_int, round}
use Rattle.common.specs.Numbers.{nought, minus_zero, one, two, five, largest_finite}
use Rattle.common.specs.Lists.{those}
use Rattle.common.specs.Sums.{sum_from}
use Rattle.common.specs.Outcome.{refused, answered}
use Rattle.checks.specs.Checks.{not_finite}
use Rattle.checks.specs.Entries.{first_failing}
use Rattle.board.specs.declared.entries.Entry.{Entry}
use Rattle.board.specs.Superseding.{placed_from, supersedes}
use Rattle.board.specs.Board.{board_refusal, board_offset, fleet_board}
use Rattle.board.specs.Rules.{satellites}

-- an entry of a satellite at an instant, with a clock offset, a frequency offset and an RMSE
abbrev entry_with : ℕ → ℤ → Float → Float → Float → Entry
entry_with s t offset frequency rmse = record {
  satellite = s;
  instant = record { 0 = t };
  clock_offset = record { 0 = offset };
  frequency_offset = record { 0 = frequency };
  rmse = record { 0 = rmse };
}

-- one whose frequency offset is 0
abbrev entry : ℕ → ℤ → Float → Float → Entry
entry s t offset rmse = entry_with s t offset nought rmse

-- of one satellite: the later instant, in front or behind, whatever the RMSE; at equal instants the smaller RMSE; if that is equal too, as both zeros
-- are, the one in front
pub superseded_cases : (fleet_board (entry 5 (negsuc 0) one one ∷ entry 5 (pos 0) two five ∷ []) ≡ answered two)
    × (fleet_board (entry 5 (pos 0) two five ∷ entry 5 (negsuc 0) one one ∷ []) ≡ answered two)
    × (fleet_board (entry 5 (pos 0) one five ∷ entry 5 (pos 0) two one ∷ []) ≡ answered two)
    × (fleet_board (entry 5 (pos 0) one nought ∷ entry 5 (pos 0) two minus_zero ∷ []) ≡ answered one)
unfolding placed_from supersedes board_offset those not_finite first_failing sum_from lt eq round add div of_int
superseded_cases = (refl, refl, refl, refl)

-- of two satellites the mean, 1.5; a third entry that is superseded changes nothing
pub mean_cases : (fleet_board (entry 5 (pos 0) one one ∷ entry 6 (pos 0) two one ∷ []) ≡ answered (fin false 3 (negsuc 0)))
    × (fleet_board (entry 5 (pos 0) one one ∷ entry 6 (negsuc 8) five one ∷ entry 6 (pos 0) two one ∷ []) ≡ answered (fin false 3 (negsuc 0)))
    × (length (satellites (entry 5 (pos 0) one one ∷ entry 6 (negsuc 8) five one ∷ entry 6 (pos 0) two one ∷ [])) ≡ 2)
unfolding placed_from supersedes board_offset satellites those not_finite first_failing sum_from lt eq round add div of_int
mean_cases = (refl, refl, refl)

-- the sum is from +0, and in list order: of the largest finite double twice and its opposite it passes the range, and from the back it would not
pub sum_cases : (fleet_board (entry 5 (pos 0) minus_zero one ∷ []) ≡ answered nought)
    × (fleet_board (entry 5 (pos 0) largest_finite one ∷ entry 6 (pos 0) largest_finite one ∷ entry 7 (pos 0) (neg largest_finite) one ∷ [])
    ≡ answered (inf false))
unfolding placed_from supersedes board_offset those not_finite first_failing sum_from lt eq neg round add div of_int
sum_cases = (refl, refl)

-- no entry and 65 are refused by 14, though a double is not finite, and 64 are not; each of the three doubles that is not finite by 15, in a superseded
-- entry too
pub refusal_cases : (fleet_board [] ≡ refused 14)
    × (fleet_board (replicate 65 (entry 5 (pos 0) nan one)) ≡ refused 14)
    × (board_refusal (replicate 64 (entry 5 (pos 0) one one)) ≡ 0)
    × (fleet_board (entry 5 (pos 0) one (inf true) ∷ []) ≡ refused 15)
    × (fleet_board (entry_with 5 (pos 0) one (inf false) one ∷ []) ≡ refused 15)
    × (fleet_board (entry 5 (pos 0) nan one ∷ entry 5 (pos 1) one one ∷ []) ≡ refused 15)
unfolding not_finite first_failing
refusal_cases = (refl, refl, refl, refl, refl, refl)
