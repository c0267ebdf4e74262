-- Place k holds number k. Assumes nothing.
use lib.Ieee.{nan}
use borrow.Author.Rules.{rules}
use Rattle.common.proofs.Made.{made_of_indices}
use Rattle.orbit_abi.specs.Models.{model_number}
use Rattle.orbit_abi.proofs.orbit_entries.model_numbers.Goals as goal

pub returns : goal.returns
returns c = made_of_indices _ (model_number c.args.orbit) _ _ nan (λ i y q k. search rules) 32 c.from_fn.ensures.items
