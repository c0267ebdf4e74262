-- Before each turn the digits passed are in `digits`, and those that are left go behind them; each digit takes a column, so 64 bits hold it.
-- Assumes nothing.
use Rattle.std.proofs.Common.{◌<◌, ◌+◌, ◌-◌, ◌*◌, ◌^◌, ℕ, true, false, length, get_or, drop, sym, ap, ◌∙◌, arith}
use native.Mathlib.Nat.{lt_of_lt_of_le}
use Rattle.decimal.specs.Reading.{most_columns, digits_behind}
use Rattle.decimal.proofs.Bytes.{digit_bounds, by_digit, digits_end}
use Rattle.decimal.proofs.Bounds.{grows, ten_mono}
use Rattle.decimal.proofs.reading.Columns.digits_behind.Goals as goal

pub returns-then-not-is_ascii_digit : goal.returns-then-not-is_ascii_digit
returns-then-not-is_ascii_digit c =
    let l = c.loop-b in
    let e = sym c.is_ascii_digit.ensures.value ∙ c.if-not-is_ascii_digit.true in
    sym (by_digit c.args.before.negative l.digits l.b-index c.args.self.text.now false c.loop-b-test.true e)
    ∙ l.invariant.rest

-- while a column is left for one more digit
small : (n k : ℕ) → n < 10 ^ k → k < 18 → n < 100000000000000000
small n k h e = lt_of_lt_of_le h (ten_mono k 17 (omega arith))

pub overflow_mul-digits : goal.overflow_mul-digits
overflow_mul-digits c =
    omega (arith, small c.loop-b.digits (most_columns - length c.args.self.text.now + c.loop-b.b-index) c.loop-b.invariant.room (omega (arith, c.args.self.few)))

pub overflow_add-digits : goal.overflow_add-digits
overflow_add-digits c =
    let s = small c.loop-b.digits (most_columns - length c.args.self.text.now + c.loop-b.b-index) c.loop-b.invariant.room (omega (arith, c.args.self.few)) in
    omega (arith, s, (digit_bounds (get_or c.args.self.text.now c.loop-b.b-index 0) (sym c.is_ascii_digit.ensures.value ∙ c.if-not-is_ascii_digit.false)).1)

pub loop-b-preserved : goal.loop-b-preserved
loop-b-preserved c =
    let l = c.loop-b in
    let a = c.args in
    let t = a.self.text.now in
    let e = sym c.is_ascii_digit.ensures.value ∙ c.if-not-is_ascii_digit.false in
    let k = most_columns - length t + l.b-index in
    record {
      room =
          grows l.digits k (most_columns - length t + (l.b-index + 1)) c.from.result l.invariant.room
          (omega (arith, (digit_bounds (get_or t l.b-index 0) e).1)) (omega arith);
      rest =
          ap (λ (d : ℕ). digits_behind a.before.negative (l.digits * 10 + d) (drop (l.b-index + 1) t)) c.from.ensures
          ∙ sym (by_digit a.before.negative l.digits l.b-index t true c.loop-b-test.true e)
          ∙ l.invariant.rest;
    }

pub returns : goal.returns
returns c =
    let l = c.loop-b in
    sym (digits_end c.args.before.negative l.digits l.b-index c.args.self.text.now (omega arith)) ∙ l.invariant.rest
