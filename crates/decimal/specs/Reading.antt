-- A number read from its columns: "blanks, at coordinates perhaps a minus, then one or more digits, and where the format has them a point and
-- all its decimals".
use Rattle.std.specs.Prelude.{ℕ, ◌+◌, ◌-◌, ◌*◌, Bool, true, false, ◌&&◌, cond, Option, None, Some, List, [], ◌∷◌, leb, eqb, length, take, drop}
use Rattle.decimal.specs.declared.reading.Number.{Number}

-- the byte of a blank
abbrev pub blank : ℕ
blank = 32

-- the byte of a minus
abbrev pub minus : ℕ
minus = 45

-- the byte of a point
abbrev pub point : ℕ
point = 46

-- the byte of the digit 0; the other nine follow it
abbrev pub first_digit : ℕ
first_digit = 48

-- whether a byte is a digit
abbrev pub is_digit : ℕ → Bool
is_digit b = leb first_digit b && leb b (first_digit + 9)

-- what is left of a text behind the blanks at its front
unfoldable pub after_blanks : List ℕ → List ℕ
after_blanks [] = []
after_blanks (b ∷ bs) = cond (eqb b blank) (after_blanks bs) (b ∷ bs)

-- the number with the sign s whose digits are those of n and then all of the text, which has nothing else
unfoldable pub digits_behind : Bool → ℕ → List ℕ → Option Number
digits_behind s n [] = Some (record { negative = s; digits = n })
digits_behind s n (b ∷ bs) = cond (is_digit b) (digits_behind s (n * 10 + (b - first_digit)) bs) None

-- "one or more digits"
unfoldable pub some_digits : Bool → List ℕ → Option Number
unfolding digits_behind
some_digits s [] = None
some_digits s (b ∷ bs) = digits_behind s 0 (b ∷ bs)

-- "perhaps a minus", where `signed` says that there may be one
unfoldable pub signed_digits : Bool → List ℕ → Option Number
unfolding some_digits
signed_digits signed [] = None
signed_digits signed (b ∷ bs) = cond (signed && eqb b minus) (some_digits true bs) (some_digits false (b ∷ bs))

-- more columns than this hold no number: any 18 digits fit 64 bits, with their sign too
abbrev pub most_columns : ℕ
most_columns = 18

-- a whole number that is a text
abbrev pub whole_of : Bool → List ℕ → Option Number
whole_of signed t = cond (leb (length t) most_columns) (signed_digits signed (after_blanks t)) None

-- "a point and all its decimals", behind what stood before the point
unfoldable pub with_decimals : Option Number → List ℕ → Option Number
unfolding digits_behind
with_decimals None t = None
with_decimals (Some n) [] = None
with_decimals (Some n) (b ∷ bs) = cond (eqb b point) (digits_behind n.negative n.digits bs) None

-- a number that is a text with its point at a place, counted from 0
abbrev pub decimal_of : Bool → ℕ → List ℕ → Option Number
decimal_of signed at t = cond (leb (length t) most_columns) (with_decimals (whole_of signed (take at t)) (drop at t)) None
