-- The pivot's test is the definition's, and each later step is one of its steps, as the callees ensure. Assumes nothing.
use mathlib.Core.Path.{◌≡◌, ap, ◌∙◌}
use mathlib.Core.Bool.{true, false}
use native.Mathlib.Omega.{arith}
use lib.Ieee.{of_bits}
use lib.ListN.{set}
use Rattle.chebyshev.specs.Inverse.{Row}
use Rattle.chebyshev.specs.Steps.{cleared_column}
use Rattle.chebyshev.proofs.Columns.{small_is, turned, column_refused, column_taken}
use Rattle.chebyshev.proofs.Rows.{swapped}
use Rattle.chebyshev.proofs.inverse.Column.clear.Goals as goal
use Rattle.chebyshev.proofs.inverse.Column.clear.Goals.{After-clear_rows-2}

both : (c : After-clear_rows-2) → (let args = c.args in
    (c.clear_rows.new.m ≡ cleared_column args.self.number args.t.now args.t.now) × (c.clear_rows-2.new.m ≡ cleared_column args.self.number args.t.now args.v.now))
both c =
    let i = c.args.self.number in
    let t = c.args.t.now in
    let v = c.args.v.now in
    let pivot = c.pivot_row-j in
    let j = pivot.result in
    let t1 = c.swap.new.self in
    let v1 = c.swap-2.new.self in
    turned i j t v t1 v1 (set t1 i c.divide_row.new.row) (set v1 i c.divide_row-2.new.row) c.clear_rows.new.m c.clear_rows-2.new.m c.factors-factors.result
    pivot.ensures.1
    (c.swap.ensures.after ∙ swapped i j t (omega arith) (omega arith))
    (c.swap-2.ensures.after ∙ swapped i j v (omega arith) (omega arith))
    (ap (λ (row : Row). set t1 i row) c.divide_row.ensures)
    (ap (λ (row : Row). set v1 i row) c.divide_row-2.ensures)
    c.factors-factors.ensures c.clear_rows.ensures c.clear_rows-2.ensures

pub returns-then-magnitude : goal.returns-then-magnitude
unfolding of_bits
returns-then-magnitude c =
    let i = c.args.self.number in
    let t = c.args.t.now in
    let pivot = c.pivot_row-j in
    column_refused i t c.args.v.now (small_is i pivot.result t c.magnitude.result true pivot.ensures.1 c.magnitude.ensures c.if-magnitude.true)

pub returns : goal.returns
unfolding of_bits
returns c =
    let i = c.args.self.number in
    let t = c.args.t.now in
    let pivot = c.pivot_row-j in
    let small = small_is i pivot.result t c.magnitude.result false pivot.ensures.1 c.magnitude.ensures c.if-magnitude.false in
    column_taken i t c.args.v.now c.clear_rows.new.m c.clear_rows-2.new.m small (both c).0 (both c).1
