-- No entry or too many is 14; a double that is not finite is 15 where the entries are neither; else it is no refusal. Assumes nothing.
use mathlib.Core.Path.{◌≡◌, sym, ◌∙◌}
use mathlib.Core.Bool.{true, false}
use mathlib.Core.List.{List}
use mathlib.Core.Logic.{◌⊎◌, inl, inr}
use borrow.Author.Tests.{eqb-true, eqb-false}
use native.Mathlib.Omega.{arith}
use lib.ListN.{length}
use Prim.Native.Nat.{◌<◌}
use Rattle.board.specs.declared.entries.Entry.{Entry}
use Rattle.board.specs.Board.{most_entries}
use Rattle.board.proofs.Refusals.{miscounted_first, not_finite_first, no_refusal}
use Rattle.board.proofs.fleet.refuse_board.Goals as goal

pub returns-then-is_empty : goal.returns-then-is_empty
returns-then-is_empty c = miscounted_first es (none_or_many c.then-is_empty.either)
  where
    es : List Entry
    es = c.args.entries.now

    none_or_many : (c.is_empty.result ≡ true) ⊎ ((c.is_empty.result ≡ false) × (most_entries < length es)) → (length es ≡ 0) ⊎ (most_entries < length es)
    none_or_many (inl e) = inl (eqb-true (length es) 0 (sym c.is_empty.ensures ∙ e))
    none_or_many (inr h) = inr h.1

pub returns-then-any_not_finite : goal.returns-then-any_not_finite
returns-then-any_not_finite c =
    let some : 0 < length c.args.entries.now = omega (arith, eqb-false (length c.args.entries.now) 0 (sym c.is_empty.ensures ∙ c.if-is_empty.false)) in
    not_finite_first c.args.entries.now some c.if-entries-gt-MOST_ENTRIES.false (sym c.any_not_finite.ensures ∙ c.if-any_not_finite.true)

pub returns : goal.returns
returns c =
    let some : 0 < length c.args.entries.now = omega (arith, eqb-false (length c.args.entries.now) 0 (sym c.is_empty.ensures ∙ c.if-is_empty.false)) in
    sym (no_refusal c.args.entries.now some c.if-entries-gt-MOST_ENTRIES.false (sym c.any_not_finite.ensures ∙ c.if-any_not_finite.false))
