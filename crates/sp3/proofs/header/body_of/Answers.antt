-- Each line is held against its own beginning. Assumes nothing.
use Rattle.std.proofs.Common.{◌≡◌, [], ℕ, true, false, drop, get_or, sym, ap, ◌∙◌, arith}
use lib.Seq.{drop-drop}
use Rattle.sp3.specs.Lines.{lines}
use Rattle.sp3.specs.Header.{beginnings}
use Rattle.sp3.proofs.Beginnings.{head_none, head_line, head_all}
use Rattle.sp3.proofs.Cursor.{begins_is}
use Rattle.sp3.proofs.header.body_of.Goals as goal

pub returns-in_err-next : goal.returns-in_err-next
returns-in_err-next c =
    let l = c.loop-beginning in
    rw c.from_residual.ensures (sym l.invariant.as_headed ∙ head_none beginnings l.beginning-index (lines l.lines.0.now) c.loop-beginning-test.true c.in_err-next.ensures.steps.0)

pub returns-then-not-starts_with : goal.returns-then-not-starts_with
returns-then-not-starts_with c =
    let l = c.loop-beginning in
    let b = begins_is (get_or beginnings l.beginning-index []) c.in_ok-next.field-0.now in
    sym l.invariant.as_headed
    ∙ head_line beginnings l.beginning-index c.in_ok-next.field-0.now (lines l.lines.0.now) (lines c.next.new.self.0.now) false c.loop-beginning-test.true c.in_ok-next.ensures.steps
    (sym b ∙ sym c.starts_with.ensures.value ∙ c.if-not-starts_with.true)

pub loop-beginning-preserved : goal.loop-beginning-preserved
loop-beginning-preserved c =
    let l = c.loop-beginning in
    let k = l.beginning-index in
    record {
      left = ap (drop 1) (sym c.in_ok-next.ensures.steps ∙ l.invariant.left) ∙ drop-drop 1 k (lines c.args.bytes.now);
      as_headed =
          sym
          (head_line beginnings k c.in_ok-next.field-0.now (lines l.lines.0.now) (lines c.next.new.self.0.now) true c.loop-beginning-test.true c.in_ok-next.ensures.steps
          (sym (begins_is (get_or beginnings k []) c.in_ok-next.field-0.now) ∙ sym c.starts_with.ensures.value ∙ c.if-not-starts_with.false))
          ∙ l.invariant.as_headed;
    }

pub returns : goal.returns
returns c =
    let l = c.loop-beginning in
    let all : l.beginning-index ≡ 22 = omega arith in (
      sym l.invariant.as_headed ∙ head_all beginnings l.beginning-index (lines l.lines.0.now) (omega arith),
      l.invariant.left ∙ ap (λ (n : ℕ). drop n (lines c.args.bytes.now)) all,
    )
