-- Arithmetic on doubles, each operation rounded once, written as the Rust writes it: ⊗ and ⊘ bind before ⊕ and ⊖, and each from the left.
use Rattle.std.specs.Prelude.{Float}
use Rattle.std.specs.Float.{binary64}
use Rattle.std.specs.Float.Ieee.{add, sub, mul, div}

infixl 6 ◌⊕◌ ◌⊖◌
infixl 7 ◌⊗◌ ◌⊘◌
-- the sum
abbrev pub ◌⊕◌ : Float → Float → Float
x ⊕ y = add binary64 x y

-- the difference
abbrev pub ◌⊖◌ : Float → Float → Float
x ⊖ y = sub binary64 x y

-- the product
abbrev pub ◌⊗◌ : Float → Float → Float
x ⊗ y = mul binary64 x y

-- the quotient
abbrev pub ◌⊘◌ : Float → Float → Float
x ⊘ y = div binary64 x y
