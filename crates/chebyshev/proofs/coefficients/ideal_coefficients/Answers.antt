-- Column by column each coefficient is summed in the order of its row, and the columns are those of the ideal inverse. Assumes nothing.
use mathlib.Core.Path.{◌≡◌, ap}
use mathlib.Core.List.{[], ◌∷◌}
use native.Mathlib.Omega.{arith}
use lib.ListN.{length, get_or, length-append}
use lib.Ieee.{nan}
use Rattle.std.proofs.lemmas.Slice.Zip.{zip_turn, zip_end}
use Rattle.chebyshev.specs.Recurrence.{rounded, weighted}
use Rattle.chebyshev.specs.Inverse.{inverted, rows_of}
use Rattle.chebyshev.specs.Ideal.{ideal_matrix}
use Rattle.chebyshev.specs.Steps.{scaled_onto}
use Rattle.common.proofs.Filled.{filled}
use Rattle.chebyshev.proofs.Scaled.{partial_more, partial_end}
use borrow.Author.Rules.{rules}
use Rattle.chebyshev.proofs.coefficients.ideal_coefficients.Goals as goal

pub loop-column-preserved : goal.loop-column-preserved
loop-column-preserved c =
    let at = c.loop-column in
    let columns = c.ideal_columns-columns.result in
    let positions = c.args.positions in
    let long : length positions ≡ 10 = search rules in
    let short : length columns ≡ 10 = search rules in
    let item = c.in-Some in
    let k = length at.yielded in
    let turn = zip_turn columns positions at.yielded c.into_iter-column-iterator.result at.column-iterator c.next.new.self c.next.result (cc) (cc) at.yielded_by (item.column, item.x) item.is c.next.ensures.steps in
    let added : c.add_scaled.new.c ≡ scaled_onto at.c (get_or columns k []) (get_or positions k nan) = rw (← turn.2 [], ← turn.3 nan) c.add_scaled.ensures in (
      c.add_scaled.array_long,
      partial_more (rows_of (inverted ideal_matrix)) columns positions (ap rows_of c.ideal_columns-columns.ensures) at.c c.add_scaled.new.c k _ (omega arith) long (length-append at.yielded ((item.column, item.x) ∷ [])) added at.invariant.1,
    )

pub returns : goal.returns
returns c =
    let at = c.loop-column in
    let columns = c.ideal_columns-columns.result in
    let positions = c.args.positions in
    let rows = rows_of (inverted ideal_matrix) in
    let long : length positions ≡ 10 = search rules in
    let short : length columns ≡ 10 = search rules in
    let all = zip_end columns positions at.yielded c.into_iter-column-iterator.result at.column-iterator c.next.new.self c.next.result (cc) (cc) at.yielded_by c.in-None.is c.next.ensures.steps in
    filled (λ j. weighted rounded (get_or rows j []) positions) 10 nan at.c at.invariant.0
    (partial_end rows columns positions (ap rows_of c.ideal_columns-columns.ensures) at.c (length at.yielded) (omega arith) at.invariant.1)
