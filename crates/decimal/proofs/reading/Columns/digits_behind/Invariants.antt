-- Before each turn the digits passed are in `digits`, and those that are left go behind them; each digit takes a column, so 64 bits hold it.
-- Assumes nothing.
use Rattle.std.proofs.Common.{◌≡◌, ◌+◌, ◌^◌, ◌-◌, ◌<◌, length, drop}
use Rattle.decimal.specs.Reading.{most_columns, digits_behind}
use Rattle.decimal.proofs.reading.Columns.digits_behind.Given as goal

abbrev pub invariant-loop-b : goal.invariant-loop-b
invariant-loop-b l = record {
  room : l.digits < 10 ^ (most_columns - length l.self.text.now + l.b-index);
  rest : digits_behind l.before.negative l.digits (drop l.b-index l.self.text.now) ≡ digits_behind l.before.negative l.before.digits l.self.text.now;
}
