-- "Lines end at a line feed": the bytes behind the last line feed, if there are any, are a line too.
use Rattle.std.specs.Prelude.{ℕ, Bool, true, false, cond, ◌&&◌, List, [], ◌∷◌, eqb}

-- the byte of a line feed
abbrev pub line_feed : ℕ
line_feed = 10

-- a byte at the front of the first line
abbrev pub onto : ℕ → List (List ℕ) → List (List ℕ)
onto b [] = (b ∷ []) ∷ []
onto b (l ∷ ls) = (b ∷ l) ∷ ls

-- the lines of some bytes, without their line feeds
unfoldable pub lines : List ℕ → List (List ℕ)
lines [] = []
lines (b ∷ bs) = cond (eqb b line_feed) ([] ∷ lines bs) (onto b (lines bs))

-- whether the first bytes of a line are p
unfoldable pub begins : List ℕ → List ℕ → Bool
begins [] l = true
begins (b ∷ p) [] = false
begins (b ∷ p) (c ∷ l) = eqb c b && begins p l
