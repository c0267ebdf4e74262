-- Before each turn the lines passed are by the description, and those of them that are kept are counted. Assumes nothing.
use Rattle.sp3.specs.Lines.{lines}
use Rattle.sp3.proofs.Walk.{saying, Looking}
use Rattle.sp3.proofs.records.Reader.look_over.Given as goal

abbrev pub invariant-loop-line : goal.invariant-loop-line
invariant-loop-line l =
    Looking (saying l.self.system l.self.satellite (lines l.body)) (saying l.self.system l.self.satellite (lines l.line-iterator.0.now)) l.started l.count
