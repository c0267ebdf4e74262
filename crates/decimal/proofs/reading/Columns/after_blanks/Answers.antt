-- The place that `position` finds is the first byte that is no blank. Assumes nothing.
use Rattle.std.proofs.Common.{◌≡◌, rules, tests}
use Rattle.std.proofs.lemmas.Iterator.{YieldsList-from_slice}
use Rattle.std.proofs.lemmas.Iterator.Search.{position_from_yields_List}
use Rattle.std.specs.List.{position}
use Rattle.decimal.proofs.Bytes.{no_blank, behind_position}
use Rattle.decimal.proofs.reading.Columns.after_blanks.Goals as goal

pub returns : goal.returns
returns c =
    let found : c.position.result ≡ position no_blank c.args.self.text.now =
    position_from_yields_List no_blank _ _ c.position.result c.position.ensures.ran
    (YieldsList-from_slice c.args.self.text.now c.iter.ensures.rest) (λ x b q k. search (rules, tests)) in
    behind_position c.args.self.text.now c.position.result c.unwrap_or-blanks.result found c.unwrap_or-blanks.ensures
