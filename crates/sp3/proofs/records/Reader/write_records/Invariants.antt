-- Before each turn the records of the lines passed stand at the front of the areas. Assumes nothing.
use Rattle.sp3.specs.Lines.{lines}
use Rattle.checks.specs.Areas.{SameAreas}
use Rattle.sp3.proofs.Walk.{saying, Writing}
use Rattle.sp3.proofs.records.Reader.write_records.Given as goal

abbrev pub invariant-loop-line : goal.invariant-loop-line
invariant-loop-line l =
    Writing (saying l.self.system l.self.satellite (lines l.body)) l.initial.areas.instants.now l.initial.areas.numbers.now
    (saying l.self.system l.self.satellite (lines l.line-iterator.0.now)) l.t.0 l.count l.areas.instants.now l.areas.numbers.now
    × SameAreas 3 l.initial.areas l.areas
