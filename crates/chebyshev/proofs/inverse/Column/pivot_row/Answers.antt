-- `best` is the best row so far and `most` its magnitude; the search from row r on ends where the whole search does. Assumes nothing.
use mathlib.Core.Bool.{true, false}
use mathlib.Core.Path.{◌∙◌, sym, ap}
use Prim.Native.Nat.{ℕ, ◌<◌, ◌-◌, ◌+◌}
use native.Mathlib.Omega.{arith}
use Rattle.float.specs.Signs.{magnitude_of}
use Rattle.common.specs.Lists.{list_of}
use Rattle.common.specs.Search.{first_best}
use Rattle.common.proofs.Search.{search_end}
use Rattle.chebyshev.specs.Inverse.{cell, greater}
use Rattle.chebyshev.proofs.Pivots.{pivot_step}
use borrow.Author.Rules.{rules}
use Rattle.chebyshev.proofs.inverse.Column.pivot_row.Goals as goal
use Rattle.chebyshev.proofs.inverse.Column.pivot_row.Goals.{then-x-most, else-x-most}

pub loop-r-preserved : goal.loop-r-preserved
loop-r-preserved c =
    let mag = c.magnitude-x in
    let at = c.loop-r in
    let args = c.args in
    let m = args.m.now in
    let h : at.r < 10 = omega arith in
    elim c.if-x-most.branch [
      | then-x-most w ↦ (
        search rules,
        search rules,
        omega (arith, w.best-is),
        w.most-is ∙ mag.ensures ∙ ap (λ (k : ℕ). magnitude_of (cell m k args.self.number)) (sym w.best-is),
        ap (λ (k : ℕ). first_best (greater args.self.number m) k (list_of (λ s. s) (10 - (at.r + 1)) (at.r + 1))) w.best-is
            ∙ pivot_step args.self.number m at.r at.best at.most mag.result true h at.invariant.3 mag.ensures w.if-x-most.true
            ∙ at.invariant.4,
      )
      | else-x-most w ↦ (
        search rules,
        search rules,
        omega (arith, w.best-is),
        w.most-is ∙ at.invariant.3 ∙ ap (λ (k : ℕ). magnitude_of (cell m k args.self.number)) (sym w.best-is),
        ap (λ (k : ℕ). first_best (greater args.self.number m) k (list_of (λ s. s) (10 - (at.r + 1)) (at.r + 1))) w.best-is
            ∙ pivot_step args.self.number m at.r at.best at.most mag.result false h at.invariant.3 mag.ensures w.if-x-most.false
            ∙ at.invariant.4,
      )
    ]

pub returns : goal.returns
returns c =
    let at = c.loop-r in
    let args = c.args in
    (search rules, sym (search_end (greater args.self.number args.m.now) (λ s. s) 10 at.r at.best (omega arith)) ∙ at.invariant.4)
