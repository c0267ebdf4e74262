-- A line without the columns has no time system; otherwise the three bytes are held against UTC and then GPS, and what is neither is another.
-- Assumes nothing.
use Rattle.std.proofs.Common.{true, false, drop, refl, sym, arith, inl, inr}
use Rattle.common.specs.Text.{text}
use Rattle.sp3.specs.Lines.{begins}
use Rattle.sp3.proofs.Said.{short_system, by_system, columns_begin}
use Rattle.sp3.proofs.header.system_in.Goals as goal

pub returns-in-None : goal.returns-in-None
returns-in-None c = short_system c.args.leap_seconds c.args.line.now (elim c.in-None.ensures.lookup.0 [ inl h ↦ absurd (omega arith) | inr h ↦ h ])

pub returns-in-Some : goal.returns-in-Some
returns-in-Some c =
    let l = c.args.line.now in
    let k = c.in-Some.ensures.lookup.0 in
    sym
    (by_system c.args.leap_seconds l true (begins (text "GPS") (drop 9 l)) k.1
    (columns_begin (text "UTC") l c.in-Some.columns.now refl k.2 k.3 c.starts_with.ensures.value c.if-starts_with.true) refl)

pub returns-in-Some-2 : goal.returns-in-Some-2
returns-in-Some-2 c =
    let l = c.args.line.now in
    let k = c.in-Some.ensures.lookup.0 in
    sym
    (by_system c.args.leap_seconds l false true k.1
    (columns_begin (text "UTC") l c.in-Some.columns.now refl k.2 k.3 c.starts_with.ensures.value c.if-starts_with.false)
    (columns_begin (text "GPS") l c.in-Some.columns.now refl k.2 k.3 c.if-starts_with-2.ensures.value refl))

pub returns-in-Some-3 : goal.returns-in-Some-3
returns-in-Some-3 c =
    let l = c.args.line.now in
    let k = c.in-Some.ensures.lookup.0 in
    sym
    (by_system c.args.leap_seconds l false false k.1
    (columns_begin (text "UTC") l c.in-Some.columns.now refl k.2 k.3 c.starts_with.ensures.value c.if-starts_with.false)
    (columns_begin (text "GPS") l c.in-Some.columns.now refl k.2 k.3 c.if-starts_with-2.ensures.value refl))
