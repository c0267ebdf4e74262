-- The definitions meet the case table, by computation. Assumes nothing.
use Rattle.std.specs.Prelude.{◌≡◌, refl, ◌++◌}
use Rattle.std.specs.Float.Ieee.{round, of_int, add, sub, mul, div}
use Rattle.float.specs.Root.{root, root_of, whole_root, root_in}
use Rattle.common.specs.Lists.{list_of}
use Rattle.chebyshev.specs.Recurrence.{weighted_from, T, T'}
use Rattle.common.specs.Sums.{sum_from}
use Rattle.samples.specs.Means.{recording, bin, insert, seconds, offset_sum, mean_instant, mean_frequency, mean_of, means}
use Rattle.cases.specs.Table.{leaf_lines, means_lines, table, given, paper}

-- the definitions meet the lines of root, Chebyshev sum and window
leaves_hold : given leaf_lines ≡ paper leaf_lines
unfolding root root_of whole_root root_in round add sub mul div of_int list_of weighted_from T T'
leaves_hold = refl

-- the definitions meet the lines of the means
means_hold : given means_lines ≡ paper means_lines
unfolding round add div of_int recording bin insert seconds offset_sum sum_from mean_instant mean_frequency mean_of means
means_hold = refl

-- the definitions meet every line: both halves, one after the other
pub table_holds : given table ≡ paper table
table_holds = λ i. leaves_hold i ++ means_hold i
