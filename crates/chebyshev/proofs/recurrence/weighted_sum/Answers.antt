-- The fold over the pairs is the definition's sum. Assumes nothing.
use mathlib.Core.Path.{◌∙◌}
use lib.Ieee.{of_bits}
use Rattle.std.proofs.lemmas.Iterator.{YieldsList-from_slice, YieldsList-from_zip}
use Rattle.std.proofs.lemmas.Iterator.Consumers.{fold_from_yields_List}
use Rattle.common.specs.Numbers.{nought}
use Rattle.chebyshev.proofs.Sums.{sum_more, folded}
use borrow.Author.Rules.{rules}
use borrow.Author.Tests.{tests}
use Rattle.chebyshev.proofs.recurrence.weighted_sum.Goals as goal

pub returns : goal.returns
unfolding of_bits
returns c = fold_from_yields_List _ sum_more nought c.fold.result c.fold.ensures.ran (YieldsList-from_zip (YieldsList-from_slice c.args.c (cc)) (YieldsList-from_slice c.args.t (cc))) (λ s p r q call. search (rules, tests)) ∙ folded nought c.args.c c.args.t
