-- The library goes over the whole places, as the definition does. Assumes nothing.
use Rattle.std.proofs.Common.{◌∙◌, ◌/◌, length, rules, arith}
use Rattle.std.proofs.lemmas.Iterator.{YieldsList-from_slice}
use Rattle.std.proofs.lemmas.Iterator.Search.{any_from_yields_List}
use borrow.Author.Tests.{tests}
use Rattle.std.specs.Simd.{first_chunks}
use Rattle.checks.proofs.Lists.{place_misplaced, by_chunks}
use Rattle.checks.proofs.places.any_misplaced.Goals as goal

pub returns : goal.returns
returns c =
    let l = c.args.positions.now in
    any_from_yields_List place_misplaced c.any.new.self _ c.any.result c.any.ensures.ran (YieldsList-from_slice (first_chunks 3 (length l / 3) l) (cc c.as_chunks.ensures.front)) (λ x b q k. search (rules, tests))
    ∙ by_chunks (length l / 3) l (omega arith) (omega arith)
