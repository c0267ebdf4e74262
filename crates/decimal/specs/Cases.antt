-- Cases by computation: what the definition gives for single texts.
use Rattle.std.specs.Prelude.{ℕ, ◌≡◌, refl, Bool, true, false, Option, None, Some}
use Rattle.common.specs.Text.{text}
use Rattle.decimal.specs.declared.reading.Number.{Number}
use Rattle.decimal.specs.Reading.{after_blanks, digits_behind, some_digits, signed_digits, with_decimals, whole_of, decimal_of}

-- a number with its sign
abbrev number : Bool → ℕ → Option Number
number s n = Some (record { negative = s; digits = n })

-- blanks and leading zeros change nothing; −0 keeps its sign
pub wholes : (whole_of false (text "2024") ≡ number false 2024) × (whole_of false (text " 7") ≡ number false 7)
    × (whole_of false (text "007") ≡ number false 7) × (whole_of true (text "  -12") ≡ number true 12) × (whole_of true (text "-0") ≡ number true 0)
unfolding after_blanks digits_behind some_digits signed_digits
wholes = (refl, refl, refl, refl, refl)

-- blanks alone, a minus alone, a blank behind the minus, a blank behind the digits, a plus, a minus where none may stand, 19 columns
pub no_wholes : (whole_of true (text "  ") ≡ None) × (whole_of true (text " -") ≡ None) × (whole_of true (text "- 7") ≡ None)
    × (whole_of true (text "7 ") ≡ None) × (whole_of true (text "+7") ≡ None) × (whole_of false (text "-7") ≡ None)
    × (whole_of false (text "                  1") ≡ None)
unfolding after_blanks digits_behind some_digits signed_digits
no_wholes = (refl, refl, refl, refl, refl, refl, refl)

-- the point at place 4
pub decimals : (decimal_of true 4 (text "  -7.250") ≡ number true 7250) × (decimal_of true 4 (text "1234.5") ≡ number false 12345)
unfolding after_blanks digits_behind some_digits signed_digits with_decimals
decimals = (refl, refl)

-- no digit before the point, the point a column early, a blank for a decimal, no point at all
pub no_decimals : (decimal_of true 4 (text "    .250") ≡ None) × (decimal_of true 4 (text "  7.2500") ≡ None)
    × (decimal_of true 4 (text "   7.25 ") ≡ None) × (decimal_of true 4 (text "   7") ≡ None)
unfolding after_blanks digits_behind some_digits signed_digits with_decimals
no_decimals = (refl, refl, refl, refl)
