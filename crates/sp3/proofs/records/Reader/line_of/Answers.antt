-- By the first byte, and behind a P by the next bytes. Assumes nothing.
use Rattle.std.proofs.Common.{◌≡◌, sym, ap, ◌∙◌, arith, Bool, cond, Option, None, Some}
use Rattle.std.specs.Prelude.{MatchOption}
use Rattle.units.specs.declared.Nanoseconds.{Nanoseconds}
use Rattle.sp3.specs.declared.line.Line.{Line}
use Rattle.sp3.specs.declared.line.Line.TheVariants.{Epoch, Wrong, PassedOver}
use Rattle.sp3.specs.Lines.{begins}
use Rattle.sp3.specs.Columns.{position_in}
use Rattle.sp3.specs.Walks.{epoch_told}
use Rattle.sp3.proofs.Said.{tail, empty_line, epoch_line, other_line, position_line}
use Rattle.sp3.proofs.Cursor.{begins_is}
use Rattle.sp3.proofs.records.Reader.line_of.Goals as goal

-- an instant made a line of
as_told : (o : Option Nanoseconds) (l : Line) → MatchOption o (l ≡ Wrong) (λ t. l ≡ Epoch t) → l ≡ epoch_told o
as_told None l h = h
as_told (Some t) l h = h

pub returns-in-42 : goal.returns-in-42
returns-in-42 c =
    let a = c.args in
    as_told c.epoch_in.result c.map_or.result c.map_or.ensures ∙ c.epoch_in.ensures ∙ epoch_line a.self.now.system a.self.now.satellite a.line.now (omega arith) (omega arith)

pub returns-in-80 : goal.returns-in-80
returns-in-80 c =
    let a = c.args in
    c.unwrap_or.ensures
    ∙ c.position_in.ensures
    ∙ ap (λ (y : Bool). cond y (position_in a.line.now) PassedOver)
    (sym c.if-starts_with.true ∙ c.starts_with.ensures.value ∙ begins_is a.self.now.satellite _ ∙ ap (begins a.self.now.satellite) (tail 1 a.line.now))
    ∙ position_line a.self.now.system a.self.now.satellite a.line.now (omega arith) (omega arith)

pub returns-in_default : goal.returns-in_default
returns-in_default c = empty_line c.args.self.now.system c.args.self.now.satellite c.args.line.now (omega arith)

pub returns-in_default-2 : goal.returns-in_default-2
returns-in_default-2 c =
    let a = c.args in
    ap (λ (y : Bool). cond y (position_in a.line.now) PassedOver)
    (sym c.if-starts_with.false ∙ c.starts_with.ensures.value ∙ begins_is a.self.now.satellite _ ∙ ap (begins a.self.now.satellite) (tail 1 a.line.now))
    ∙ position_line a.self.now.system a.self.now.satellite a.line.now (omega arith) (omega arith)

pub returns-in_default-3 : goal.returns-in_default-3
returns-in_default-3 c = other_line c.args.self.now.system c.args.self.now.satellite c.args.line.now (omega arith) (λ e. omega arith) (λ e. omega arith)
