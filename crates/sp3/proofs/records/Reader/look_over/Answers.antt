-- Before each turn the lines passed are by the description, and those of them that are kept are counted. Assumes nothing.
use Rattle.std.proofs.Common.{sym, ◌∙◌, arith}
use Rattle.common.specs.Text.{text}
use Rattle.sp3.specs.Lines.{lines}
use Rattle.sp3.proofs.Walk.{saying, said_none, said_eof, said_next, look_none, look_end, look_wrong, look_more, kept_few}
use Rattle.sp3.proofs.Cursor.{begins_is}
use Rattle.sp3.proofs.records.Reader.look_over.Goals as goal

pub loop-line-init : goal.loop-line-init
loop-line-init c = rw c.into_iter-line-iterator.ensures.into_iter_gives (look_none _)

pub returns-then-is_fault : goal.returns-then-is_fault
returns-then-is_fault c =
    let s = c.args.self.now in
    let l = c.loop-line in
    let it = lines l.line-iterator.0.now in
    let rest = lines c.next.new.self.0.now in
    let eof = sym (begins_is (text "EOF") c.in-Some.line.now) ∙ sym c.starts_with.ensures.value ∙ c.if-starts_with.false in
    let next = said_next s.system s.satellite c.in-Some.line.now it rest c.in-Some.ensures.steps c.line_of-l.result eof c.line_of-l.ensures in
    look_wrong (saying s.system s.satellite (lines c.args.body.now)) (saying s.system s.satellite it) l.started l.count l.invariant
    c.line_of-l.result (saying s.system s.satellite rest) next (sym c.is_fault.ensures ∙ c.if-is_fault.true)

pub overflow_add-count : goal.overflow_add-count
overflow_add-count c =
    let s = c.args.self.now in
    let l = c.loop-line in
    let it = lines l.line-iterator.0.now in
    let rest = lines c.next.new.self.0.now in
    let eof = sym (begins_is (text "EOF") c.in-Some.line.now) ∙ sym c.starts_with.ensures.value ∙ c.if-starts_with.false in
    let next = said_next s.system s.satellite c.in-Some.line.now it rest c.in-Some.ensures.steps c.line_of-l.result eof c.line_of-l.ensures in
    let more = look_more (saying s.system s.satellite (lines c.args.body.now)) (saying s.system s.satellite it) l.started l.count l.invariant
    c.line_of-l.result (saying s.system s.satellite rest) next (sym c.is_fault.ensures ∙ c.if-is_fault.false) in
    omega (arith, more.as_many, c.record_count-count.ensures, kept_few s.system s.satellite c.args.body.now)

pub loop-line-preserved : goal.loop-line-preserved
loop-line-preserved c =
    let s = c.args.self.now in
    let l = c.loop-line in
    let it = lines l.line-iterator.0.now in
    let rest = lines c.next.new.self.0.now in
    let eof = sym (begins_is (text "EOF") c.in-Some.line.now) ∙ sym c.starts_with.ensures.value ∙ c.if-starts_with.false in
    let next = said_next s.system s.satellite c.in-Some.line.now it rest c.in-Some.ensures.steps c.line_of-l.result eof c.line_of-l.ensures in
    rw (c.is_begun-started.ensures, c.record_count-count.ensures)
    (look_more (saying s.system s.satellite (lines c.args.body.now)) (saying s.system s.satellite it) l.started l.count l.invariant
    c.line_of-l.result (saying s.system s.satellite rest) next (sym c.is_fault.ensures ∙ c.if-is_fault.false))

pub returns-then-starts_with : goal.returns-then-starts_with
returns-then-starts_with c =
    let s = c.args.self.now in
    let l = c.loop-line in
    let it = lines l.line-iterator.0.now in
    let eof = sym (begins_is (text "EOF") c.in-Some.line.now) ∙ sym c.starts_with.ensures.value ∙ c.if-starts_with.true in
    look_end (saying s.system s.satellite (lines c.args.body.now)) (saying s.system s.satellite it) l.started l.count l.invariant
    (said_eof s.system s.satellite c.in-Some.line.now it (lines c.next.new.self.0.now) c.in-Some.ensures.steps eof)

pub returns-in-None : goal.returns-in-None
returns-in-None c =
    let s = c.args.self.now in
    let l = c.loop-line in
    let it = lines l.line-iterator.0.now in
    look_end (saying s.system s.satellite (lines c.args.body.now)) (saying s.system s.satellite it) l.started l.count l.invariant
    (said_none s.system s.satellite it c.in-None.ensures.steps.0)
