-- The pairs of neighbours, as the library goes over them and as the definition takes them. Assumes nothing.
use Rattle.std.proofs.Common.{not, ◌∙◌, rules}
use Rattle.std.proofs.lemmas.Iterator.{YieldsList-from_slice, YieldsList-from_zip}
use Rattle.std.proofs.lemmas.Iterator.Adapters.{YieldsList-from_skip}
use Rattle.std.proofs.lemmas.Iterator.Search.{any_from_yields_List}
use borrow.Author.Tests.{tests}
use lib.Signed.{lt_z}
use Rattle.checks.proofs.Orders.{by_pairs}
use Rattle.checks.proofs.instants.unrising.Goals as goal

pub returns : goal.returns
returns c =
    let l = c.args.instants.now in
    any_from_yields_List (λ p. not (lt_z p.0 p.1)) c.any.new.self _ c.any.result c.any.ensures.ran
    (YieldsList-from_zip {s = c.zip.result} (YieldsList-from_slice l cc) (YieldsList-from_skip 1 (YieldsList-from_slice l cc) cc))
    (λ x b q k. search (rules, tests))
    ∙ by_pairs l
