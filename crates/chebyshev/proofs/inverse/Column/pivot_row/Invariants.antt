-- `best` is the best row so far and `most` its magnitude; the search from row r on ends where the whole search does. Assumes nothing.
use mathlib.Core.Path.{◌≡◌}
use Prim.Native.Nat.{◌≤◌, ◌<◌, ◌-◌}
use Rattle.float.specs.Signs.{magnitude_of}
use Rattle.common.specs.Lists.{list_of}
use Rattle.common.specs.Search.{first_best}
use Rattle.chebyshev.specs.Inverse.{cell, greater, pivot_row}
use Rattle.chebyshev.proofs.inverse.Column.pivot_row.Given as goal

abbrev pub invariant-loop-r : goal.invariant-loop-r
invariant-loop-r l = (l.self.number < l.r) × (l.r ≤ 10) × (l.best < 10) × (l.most ≡ magnitude_of (cell l.m l.best l.self.number)) × (first_best (greater l.self.number l.m) l.best (list_of (λ s. s) (10 - l.r) l.r) ≡ pivot_row l.self.number l.m)

abbrev pub decreases-loop-r : goal.decreases-loop-r
decreases-loop-r l = 10 - l.r
