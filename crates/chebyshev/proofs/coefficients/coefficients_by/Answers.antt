-- Each coefficient is what the closure gives of its index. Assumes nothing.
use mathlib.Core.List.{[]}
use lib.Ieee.{nan}
use lib.ListN.{get_or}
use Rattle.common.proofs.Made.{made_of_indices}
use Rattle.chebyshev.specs.Recurrence.{rounded, weighted}
use borrow.Author.Rules.{rules}
use borrow.Author.Tests.{tests}
use Rattle.chebyshev.proofs.coefficients.coefficients_by.Goals as goal

pub returns : goal.returns
returns c = made_of_indices _ (λ j. weighted rounded (get_or c.args.inverse j []) c.args.positions) _ c.from_fn.result nan (λ j x q call. search (rules, tests)) 10 c.from_fn.ensures.items
