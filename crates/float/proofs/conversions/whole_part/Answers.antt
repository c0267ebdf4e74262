-- By the exponent: below one there is no whole part, from 2 ^ 63 on the end of the range, and between the digits are shifted to their place. Assumes nothing.
use Rattle.std.proofs.Common.{◌≡◌, ◌+◌, ◌-◌, ◌*◌, ◌%◌, ◌^◌, true, mod-eq_of_lt, arith}
use Rattle.float.proofs.WholeParts.{whole-small, whole_mid, whole_high, whole_large}
use Rattle.float.proofs.conversions.whole_part.Goals as goal

pub returns-then-exponent-lt1023 : goal.returns-then-exponent-lt1023
returns-then-exponent-lt1023 c = let a = c.args in (omega arith, λ s. whole-small s a.exponent a.fraction (omega arith) (omega arith))

pub returns-then-exponent-ge1086 : goal.returns-then-exponent-ge1086
returns-then-exponent-ge1086 c = let a = c.args in (omega arith, λ s. whole_large s a.exponent a.fraction (omega arith))

pub returns-then-exponent-le1075 : goal.returns-then-exponent-le1075
returns-then-exponent-le1075 c =
    let a = c.args in
    ((whole_mid true a.exponent a.fraction (omega arith) (omega arith) (omega arith)).0, λ s. (whole_mid s a.exponent a.fraction (omega arith) (omega arith) (omega arith)).1)

pub returns-else-exponent-le1075 : goal.returns-else-exponent-le1075
returns-else-exponent-le1075 c =
    let a = c.args in
    let h = whole_high true a.exponent a.fraction (omega arith) (omega arith) (omega arith) in
    let e : (a.fraction + 4503599627370496) * 2 ^ (a.exponent - 1075) % 18446744073709551616 ≡ (a.fraction + 4503599627370496) * 2 ^ (a.exponent - 1075) = mod-eq_of_lt (omega arith) in
    rw e (omega arith, λ s. (whole_high s a.exponent a.fraction (omega arith) (omega arith) (omega arith)).1)
