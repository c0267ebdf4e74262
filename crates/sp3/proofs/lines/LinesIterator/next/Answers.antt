-- The place that `position` finds is the first line feed. Assumes nothing.
use Rattle.std.proofs.Common.{◌≡◌, rules, tests, arith, refl, sym, ap, ◌∙◌, length, List, ◌∷◌, ℕ, Bor}
use borrow.Author.Tests.{eqb-true, eqb-false}
use Rattle.std.proofs.lemmas.Iterator.{YieldsList-from_slice}
use Rattle.std.proofs.lemmas.Iterator.Search.{position_from_yields_List}
use Rattle.std.specs.List.{position}
use Rattle.sp3.specs.Lines.{lines}
use Rattle.sp3.proofs.Cursor.{is_feed, next_line, feed_dropped, lines_none}
use Rattle.sp3.proofs.lines.LinesIterator.next.Goals as goal

pub returns-then-is_empty-clause-steps : goal.returns-then-is_empty-clause-steps
returns-then-is_empty-clause-steps c =
    let z = lines_none c.args.self.now.0.now (eqb-true _ 0 (sym c.is_empty.ensures ∙ c.if-is_empty.true)) in (z, z)

-- the line that is given, and the lines that are left
given : (c : goal.After-self-1) → lines c.args.self.now.0.now ≡ c.split_at.result.0.now ∷ lines c.unwrap_or-self.result.now
given c =
    let found : c.position.result ≡ position is_feed c.args.self.now.0.now =
    position_from_yields_List is_feed _ _ c.position.result c.position.ensures.ran
    (YieldsList-from_slice c.args.self.now.0.now c.iter.ensures.rest) (λ x b q k. search (rules, tests)) in
    let rest = ap (λ (x : Bor (List ℕ)). x.now) c.unwrap_or-self.ensures ∙ feed_dropped c.split_at.result.1.now c.get.result c.split_at.result.1 refl c.get.ensures.lookup.0 in
    rw c.split_at.ensures.front
    (next_line c.args.self.now.0.now c.unwrap_or-self.result.now c.position.result c.unwrap_or-end.result
    (omega (arith, eqb-false (length c.args.self.now.0.now) 0 (sym c.is_empty.ensures ∙ c.if-is_empty.false))) found c.unwrap_or-end.ensures
    (rw c.split_at.ensures.back at rest))

pub returns-clause-steps : goal.returns-clause-steps
returns-clause-steps c = given c

pub returns-clause-goes : goal.returns-clause-goes
returns-clause-goes c = record { on = λ f. (tt, tt, omega (arith, ap length (given c))); keeps = tt; rests = λ f. tt }
