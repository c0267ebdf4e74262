-- What the laws of the board speak of: the entries of one satellite, which satellites are present, and each of these once.
use Rattle.std.specs.Prelude.{ℕ, Bool, cond, List, [], ◌∷◌, eqb}
use Rattle.checks.specs.Checks.{any}
use Rattle.board.specs.declared.entries.Entry.{Entry}
use Rattle.board.specs.declared.superseding.Placed.{Placed}

-- whether an entry is of the satellite s
abbrev pub of_satellite : ℕ → Placed → Bool
of_satellite s p = eqb p.entry.satellite s

-- whether a satellite is present: one of the entries is of it
abbrev pub present : ℕ → List Entry → Bool
present s es = any (λ e. eqb e.satellite s) es

-- the satellites present, each once
unfoldable pub satellites : List Entry → List ℕ
satellites [] = []
satellites (e ∷ es) = cond (present e.satellite es) (satellites es) (e.satellite ∷ satellites es)
