-- Shifted up to 64 digits, n keeps 53 and drops 11, and what is added is one exactly where rounding to nearest, ties to even, goes up. Assumes nothing.
use Rattle.std.proofs.Common.{◌≡◌, ℕ, ◌+◌, ◌-◌, ◌*◌, ◌%◌, ◌^◌, sym, ap, ◌∙◌, mod-eq_of_lt, arith}
use lib.Count.{count_leading_zeros}
use lib.Ieee.{binary64, of_bits}
use Rattle.float.proofs.Integers.{Tops, tops, int_rounds, closest_code}
use Rattle.float.proofs.conversions.nearest_bits.Goals as goal
use Rattle.float.proofs.conversions.nearest_bits.Goals.{Start}

zeros : (c : Start) → Tops c.args.n (count_leading_zeros 64 c.args.n)
zeros c = tops c.args.n c.requires c.ranges.n.fits

pub overflow_shl-top : goal.overflow_shl-top
overflow_shl-top c = omega (arith, zeros c.before, c.from-z.ensures)

pub overflow_sub-result : goal.overflow_sub-result
overflow_sub-result c = omega (arith, zeros c.before, c.from-z.ensures)

pub returns : goal.returns
returns c =
    let n = c.args.n in
    let z = count_leading_zeros 64 n in
    let t = n * 2 ^ z in
    let k = zeros c.before in
    let e : t % 18446744073709551616 ≡ t = mod-eq_of_lt k.2 in
    rw c.from-z.ensures
    rw e
    (omega arith, sym (int_rounds n c.requires c.ranges.n.fits ∙ ap (λ (x : ℕ). of_bits binary64 ((1085 - z) * 4503599627370496 + x)) (closest_code t)))
