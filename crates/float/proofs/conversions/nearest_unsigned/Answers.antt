-- A zero is a zero; any other number by its bits. Assumes nothing.
use Rattle.std.proofs.Common.{ℕ, pos, sym, ap, ◌∙◌, arith}
use lib.Ieee.{binary64, of_int}
use Rattle.float.proofs.Nans.{no_nan_bits}
use Rattle.float.proofs.Integers.{of_int-zero, of_int_pos}
use Rattle.float.proofs.conversions.nearest_unsigned.Goals as goal

pub returns-then-n-eq0 : goal.returns-then-n-eq0
returns-then-n-eq0 c = of_int-zero ∙ ap (λ (x : ℕ). of_int binary64 (pos x)) (sym c.if-n-eq0.true)

pub float_from_bits-result : goal.float_from_bits-result
float_from_bits-result c = no_nan_bits c.nearest_bits.result (omega (arith, c.nearest_bits.ensures.0))

pub returns : goal.returns
returns c = c.nearest_bits.ensures.1 ∙ of_int_pos c.args.n
