-- Document 02, request 2.5: "Of entries with the same satellite the later instant supersedes; at equal instants the smaller RMSE; if that is equal too, the one
-- nearer the front." Instants are nanoseconds, RMSEs hertz.
use Rattle.std.specs.Prelude.{ℕ, ◌+◌, Bool, not, ◌&&◌, ◌||◌, List, [], ◌∷◌, ltb, eqb}
use Rattle.std.specs.Int.Signed.{lt_z}
use Rattle.std.specs.Float.Ieee.{lt, eq}
use Rattle.common.specs.Integers.{eq_z}
use Rattle.common.specs.Lists.{those}
use Rattle.checks.specs.Checks.{any}
use Rattle.board.specs.declared.entries.Entry.{Entry}
use Rattle.board.specs.declared.superseding.Placed.{Placed}

-- the entries of a list with their places, the first of them at k
unfoldable pub placed_from : ℕ → List Entry → List Placed
placed_from k [] = []
placed_from k (e ∷ es) = record { place = k; entry = e } ∷ placed_from (k + 1) es

-- those of a whole list, counted from 0 at the front
abbrev pub placed : List Entry → List Placed
placed es = placed_from 0 es

-- "entries with the same satellite"
abbrev pub same_satellite : Placed → Placed → Bool
same_satellite a b = eqb a.entry.satellite b.entry.satellite

-- "the later instant"
abbrev pub later : Placed → Placed → Bool
later a b = lt_z b.entry.instant.0 a.entry.instant.0

-- "at equal instants"
abbrev pub same_instant : Placed → Placed → Bool
same_instant a b = eq_z a.entry.instant.0 b.entry.instant.0

-- "the smaller RMSE"
abbrev pub smaller_rmse : Placed → Placed → Bool
smaller_rmse a b = lt a.entry.rmse.0 b.entry.rmse.0

-- "if that is equal too"; both zeros are equal
abbrev pub same_rmse : Placed → Placed → Bool
same_rmse a b = eq a.entry.rmse.0 b.entry.rmse.0

-- "the one nearer the front"
abbrev pub nearer_front : Placed → Placed → Bool
nearer_front a b = ltb a.place b.place

-- a supersedes b
unfoldable pub supersedes : Placed → Placed → Bool
supersedes a b = same_satellite a b && (later a b || same_instant a b && (smaller_rmse a b || same_rmse a b && nearer_front a b))

-- whether one of a list supersedes p
abbrev pub superseded_in : List Placed → Placed → Bool
superseded_in ps p = any (λ q. supersedes q p) ps

-- whether p survives among a list: none of it supersedes p
abbrev pub survives : List Placed → Placed → Bool
survives ps p = not (superseded_in ps p)

-- "the survivors", in list order
abbrev pub survivors_of : List Placed → List Placed
survivors_of ps = those (survives ps) ps

-- the same of a list of entries
abbrev pub survivors : List Entry → List Placed
survivors es = survivors_of (placed es)
