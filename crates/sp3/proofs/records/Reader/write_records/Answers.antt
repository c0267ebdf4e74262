-- Before each turn the records of the lines passed stand at the front of the areas. Assumes nothing.
use Rattle.std.proofs.Common.{ℕ, length, ◌*◌, ◌≤◌, refl, sym, ◌∙◌, arith, pos}
use Rattle.common.specs.Text.{text}
use Rattle.checks.specs.declared.lent_areas.LentAreas.{LentAreas}
use Rattle.sp3.specs.Lines.{lines}
use Rattle.checks.specs.Areas.{Room}
use Rattle.sp3.proofs.Walk.{saying, said_none, said_eof, said_next, write_none, write_end, room, write_more, one-count}
use Rattle.sp3.proofs.Cursor.{begins_is}
use Rattle.sp3.proofs.records.Reader.write_records.Goals as goal

fits : {n : ℕ} {areas : LentAreas 3} → Room 3 n areas → (n ≤ length areas.instants.now) × (3 * n ≤ length areas.numbers.now)
fits room = (room.instants, room.numbers)

pub loop-line-init : goal.loop-line-init
loop-line-init c =
    let s = c.args.self.now in
    let q = fits c.requires.room in
    rw c.into_iter-line-iterator.ensures.into_iter_gives
    (write_none (saying s.system s.satellite (lines c.args.body.now)) c.args.areas.now.instants.now c.args.areas.now.numbers.now q.0 q.1, record { instants = refl; numbers = refl })

pub put-requires : goal.put-requires
put-requires c =
    let s = c.args.self.now in
    let l = c.loop-line in
    let it = lines l.line-iterator.0.now in
    let is = c.args.areas.now.instants.now in
    let ps = c.args.areas.now.numbers.now in
    let q = fits c.requires.room in
    let rest = lines c.next.new.self.0.now in
    let eof = sym (begins_is (text "EOF") c.in-Some.line.now) ∙ sym c.starts_with.ensures.value ∙ c.if-starts_with.false in
    let next = said_next s.system s.satellite c.in-Some.line.now it rest c.in-Some.ensures.steps c.line_of-l.result eof c.line_of-l.ensures in
    let r = room (saying s.system s.satellite (lines c.args.body.now)) is ps q.0 q.1
    (saying s.system s.satellite it) l.t.0 l.count l.areas.instants.now l.areas.numbers.now l.invariant.0 c.line_of-l.result (saying s.system s.satellite rest) next in
    record { room = record { instants = r.0; numbers = omega (arith, r.1) } }

pub overflow_add-count : goal.overflow_add-count
overflow_add-count c =
    let s = c.args.self.now in
    let l = c.loop-line in
    let it = lines l.line-iterator.0.now in
    let is = c.args.areas.now.instants.now in
    let ps = c.args.areas.now.numbers.now in
    let q = fits c.requires.room in
    let rest = lines c.next.new.self.0.now in
    let eof = sym (begins_is (text "EOF") c.in-Some.line.now) ∙ sym c.starts_with.ensures.value ∙ c.if-starts_with.false in
    let next = said_next s.system s.satellite c.in-Some.line.now it rest c.in-Some.ensures.steps c.line_of-l.result eof c.line_of-l.ensures in
    let r = room (saying s.system s.satellite (lines c.args.body.now)) is ps q.0 q.1
    (saying s.system s.satellite it) l.t.0 l.count l.areas.instants.now l.areas.numbers.now l.invariant.0 c.line_of-l.result (saying s.system s.satellite rest) next in
    omega (arith, r, one-count c.line_of-l.result l.t.0 (pos 0), c.record_count-count.ensures, l.invariant.0.long_is)

pub loop-line-preserved : goal.loop-line-preserved
loop-line-preserved c =
    let s = c.args.self.now in
    let l = c.loop-line in
    let it = lines l.line-iterator.0.now in
    let is = c.args.areas.now.instants.now in
    let ps = c.args.areas.now.numbers.now in
    let q = fits c.requires.room in
    let rest = lines c.next.new.self.0.now in
    let eof = sym (begins_is (text "EOF") c.in-Some.line.now) ∙ sym c.starts_with.ensures.value ∙ c.if-starts_with.false in
    let next = said_next s.system s.satellite c.in-Some.line.now it rest c.in-Some.ensures.steps c.line_of-l.result eof c.line_of-l.ensures in
    let put = c.put.ensures in (
      write_more (saying s.system s.satellite (lines c.args.body.now)) is ps q.0 q.1
          (saying s.system s.satellite it) l.t.0 l.count l.areas.instants.now l.areas.numbers.now l.invariant.0
          c.line_of-l.result (saying s.system s.satellite rest) c.instant_after-t.result.0 c.record_count-count.result c.put.new.areas.instants.now c.put.new.areas.numbers.now
          next c.instant_after-t.ensures c.record_count-count.ensures put.instants put.numbers,
      record { instants = put.same.instants ∙ l.invariant.1.instants; numbers = put.same.numbers ∙ l.invariant.1.numbers },
    )

pub returns-then-starts_with : goal.returns-then-starts_with
returns-then-starts_with c =
    let s = c.args.self.now in
    let l = c.loop-line in
    let it = lines l.line-iterator.0.now in
    let is = c.args.areas.now.instants.now in
    let ps = c.args.areas.now.numbers.now in
    let q = fits c.requires.room in
    let eof = sym (begins_is (text "EOF") c.in-Some.line.now) ∙ sym c.starts_with.ensures.value ∙ c.if-starts_with.true in
    let w = write_end (saying s.system s.satellite (lines c.args.body.now)) is ps q.0 q.1
    (saying s.system s.satellite it) l.t.0 l.count l.areas.instants.now l.areas.numbers.now l.invariant.0 (said_eof s.system s.satellite c.in-Some.line.now it (lines c.next.new.self.0.now) c.in-Some.ensures.steps eof) in
    record { instants = w.0; numbers = w.1; same = l.invariant.1 }

pub returns-in-None : goal.returns-in-None
returns-in-None c =
    let s = c.args.self.now in
    let l = c.loop-line in
    let it = lines l.line-iterator.0.now in
    let is = c.args.areas.now.instants.now in
    let ps = c.args.areas.now.numbers.now in
    let q = fits c.requires.room in
    let w = write_end (saying s.system s.satellite (lines c.args.body.now)) is ps q.0 q.1
    (saying s.system s.satellite it) l.t.0 l.count l.areas.instants.now l.areas.numbers.now l.invariant.0 (said_none s.system s.satellite it c.in-None.ensures.steps.0) in
    record { instants = w.0; numbers = w.1; same = l.invariant.1 }
