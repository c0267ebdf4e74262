-- The lines of document 01's case table that are marked P: each with what the definitions give and what the paper says. One theorem, by
-- computation, says that all of them agree (proofs/Table.antt).
use Rattle.std.specs.Prelude.{ℕ, true, false, List, [], ◌∷◌, ◌++◌, map, ℤ, pos, negsuc, replicate, Float}
use Rattle.std.specs.Float.{fin, binary64}
use Rattle.float.specs.Root.{root}
use Rattle.chebyshev.specs.Recurrence.{rounded, value_of, slope_of}
use Rattle.common.specs.Numbers.{one}
use Rattle.samples.specs.Means.{Sample, recording, whole_second, means}
use Rattle.orbit.specs.Window.{start_of}

-- what a line compares
pub data Value : Type 0 where
  double : Float → Value
  whole : ℤ → Value
  samples : List Sample → Value

-- a line: what the definition gives, and what the paper says
pub record Case : Type 0 where
  pub given : Value
  pub paper : Value

-- a line by its two values
abbrev case : Value → Value → Case
case g p = record { given = g; paper = p }

-- m * 2 ^ e
abbrev plus : ℕ → ℤ → Float
plus m e = fin false m e

-- the same below zero
abbrev minus : ℕ → ℤ → Float
minus m e = fin true m e

-- 0.5
abbrev half : Float
half = plus 1 (negsuc 0)

-- ten coefficients, all 0 but a 1 at place j
abbrev single : ℕ → ℕ → List Float
single j after = replicate j (plus 0 (pos 0)) ++ one ∷ replicate after (plus 0 (pos 0))

-- "Root P: 2.25 → 1.5; 2^-1074 → 2^-537; −0 → −0"
abbrev root_lines : List Case
root_lines =
    case (double (root binary64 (plus 9 (negsuc 1)))) (double (plus 3 (negsuc 0)))
    ∷ case (double (root binary64 (plus 1 (negsuc 1073)))) (double (plus 1 (negsuc 536)))
    ∷ case (double (root binary64 (minus 0 (pos 0)))) (double (minus 0 (pos 0)))
    ∷ []

-- "Chebyshev, single coefficient 1 P: T2 at 0.5 → −0.5, slope 2; T3 at 0.5 → −1, slope 0; T9 at 1 → 1, slope 81"
abbrev chebyshev_lines : List Case
chebyshev_lines =
    case (double (value_of rounded (single 2 7) half)) (double (minus 1 (negsuc 0)))
    ∷ case (double (slope_of rounded (single 2 7) half)) (double (plus 1 (pos 1)))
    ∷ case (double (value_of rounded (single 3 6) half)) (double (minus 1 (pos 0)))
    ∷ case (double (slope_of rounded (single 3 6) half)) (double (plus 0 (pos 0)))
    ∷ case (double (value_of rounded (single 9 0) one)) (double one)
    ∷ case (double (slope_of rounded (single 9 0) one)) (double (plus 81 (pos 0)))
    ∷ []

-- "Start, 20 coordinates P: idx 4 → 0; 5 → 1; 14 → 10; 15 → 10"
abbrev start_lines : List Case
start_lines =
    case (whole (pos (start_of 4 20))) (whole (pos 0))
    ∷ case (whole (pos (start_of 5 20))) (whole (pos 1))
    ∷ case (whole (pos (start_of 14 20))) (whole (pos 10))
    ∷ case (whole (pos (start_of 15 20))) (whole (pos 10))
    ∷ []

-- "Means P: instants 5,000 and 0 with 10 and 20 Hz → 3,000 and 15; −1 lies in second −1, 0 in second 0"
abbrev pub means_lines : List Case
means_lines =
    case (samples (means (recording (pos 5000 ∷ pos 0 ∷ []) (plus 5 (pos 1) ∷ plus 5 (pos 2) ∷ []))))
    (samples (record { instant = pos 3000; frequency = plus 15 (pos 0) } ∷ []))
    ∷ case (whole (whole_second (negsuc 0))) (whole (negsuc 0))
    ∷ case (whole (whole_second (pos 0))) (whole (pos 0))
    ∷ []

-- the lines of the leaves and of the window
abbrev pub leaf_lines : List Case
leaf_lines = root_lines ++ chebyshev_lines ++ start_lines

-- all lines marked P
abbrev pub table : List Case
table = leaf_lines ++ means_lines

-- what the definitions give
abbrev pub given : List Case → List Value
given = map (λ (c : Case). c.given)

-- what the paper says
abbrev pub paper : List Case → List Value
paper = map (λ (c : Case). c.paper)
