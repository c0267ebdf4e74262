-- The code looks at each entry with its place, as the definition does. Assumes nothing.
use Rattle.std.proofs.Common.{ℕ, rules, tests, ◌∙◌}
use Rattle.std.proofs.lemmas.Iterator.{YieldsList-from_slice}
use Rattle.std.proofs.lemmas.Iterator.Consumers.{YieldsList-from_enumerate, YieldsList-at}
use Rattle.std.proofs.lemmas.Iterator.Search.{any_from_yields_List}
use Rattle.board.specs.declared.entries.Entry.{Entry}
use Rattle.board.specs.Superseding.{supersedes}
use Rattle.board.proofs.Places.{at, any-enumerated}
use Rattle.board.proofs.superseding.Placed.is_superseded.Goals as goal

pub returns : goal.returns
returns c =
    let es = c.args.entries.now in
    any_from_yields_List (λ (p : ℕ × Entry). supersedes (at p.0 p.1) c.args.self) _ _ _ c.any.ensures.ran
    (YieldsList-from_enumerate (YieldsList-at c.enumerate.ensures.source (YieldsList-from_slice es c.iter.ensures.rest)) c.enumerate.ensures.count)
    (λ x b q k. search (rules, tests))
    ∙ any-enumerated (λ q. supersedes q c.args.self) 0 es
