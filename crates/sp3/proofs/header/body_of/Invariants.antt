-- Before each turn the lines passed begin as they must, and the others are left. Assumes nothing.
use Rattle.std.proofs.Common.{◌≡◌, drop}
use Rattle.sp3.specs.Lines.{lines}
use Rattle.sp3.specs.Header.{beginnings, headed}
use Rattle.sp3.proofs.header.body_of.Given as goal

abbrev pub invariant-loop-beginning : goal.invariant-loop-beginning
invariant-loop-beginning l = record {
  left : lines l.lines.0.now ≡ drop l.beginning-index (lines l.bytes);
  as_headed : headed (drop l.beginning-index beginnings) (lines l.lines.0.now) ≡ headed beginnings (lines l.bytes);
}
