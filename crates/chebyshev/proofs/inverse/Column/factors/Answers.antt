-- Each number is what the closure gives of its row. Assumes nothing.
use lib.Ieee.{nan}
use Rattle.common.proofs.Made.{made_of_indices}
use Rattle.chebyshev.specs.Inverse.{cell}
use borrow.Author.Rules.{rules}
use borrow.Author.Tests.{tests}
use Rattle.chebyshev.proofs.inverse.Column.factors.Goals as goal

pub returns : goal.returns
returns c = made_of_indices _ (λ r. cell c.args.m.now r c.args.self.number) _ c.from_fn.result nan (λ r x q call. search (rules, tests)) 10 c.from_fn.ensures.items
