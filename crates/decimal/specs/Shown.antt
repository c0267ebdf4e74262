-- A number as it is written: what the laws of reading speak of. Nothing here reads; a text is put together from its parts.
use Rattle.std.specs.Prelude.{ℕ, ◌+◌, ◌*◌, ◌<◌, ◌≡◌, Bool, true, false, ◌||◌, not, List, [], ◌∷◌, ◌++◌, map, T, length, replicate}
use Rattle.decimal.specs.declared.reading.Number.{Number}
use Rattle.decimal.specs.Reading.{blank, minus, point, first_digit}

-- the bytes of some digits
abbrev pub bytes : List ℕ → List ℕ
bytes ds = map (λ (d : ℕ). first_digit + d) ds

-- each of them is below ten
unfoldable pub Digits : List ℕ → Type 0
Digits [] = Unit {0}
Digits (d ∷ ds) = (d < 10) × Digits ds

-- the number whose digits are those of n and then these
unfoldable pub behind : ℕ → List ℕ → ℕ
behind n [] = n
behind n (d ∷ ds) = behind (n * 10 + d) ds

-- the minus, or nothing
abbrev pub sign : Bool → List ℕ
sign true = minus ∷ []
sign false = []

-- a text shows a whole number: blanks, a minus where it is below zero and one may stand, and its digits, at least one
pub record Whole (signed : Bool) (t : List ℕ) (n : Number) : Type 0 where
  pub blanks : ℕ
  pub first : ℕ
  pub others : List ℕ
  pub digits : Digits (first ∷ others)
  pub allowed : T (not n.negative || signed)
  pub text : t ≡ replicate blanks blank ++ (sign n.negative ++ bytes (first ∷ others))
  pub value : n.digits ≡ behind 0 (first ∷ others)

-- a text shows a number with its point at a place: a whole number of so many columns, the point, and decimals
pub record Decimal (signed : Bool) (at : ℕ) (t : List ℕ) (n : Number) : Type 0 where
  pub ahead : List ℕ
  pub whole : Number
  pub decimals : List ℕ
  pub shows : Whole signed ahead whole
  pub place : length ahead ≡ at
  pub digits : Digits decimals
  pub text : t ≡ ahead ++ (point ∷ bytes decimals)
  pub sign_of : n.negative ≡ whole.negative
  pub value : n.digits ≡ behind whole.digits decimals
