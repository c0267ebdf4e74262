-- From March on the months run behind by one day or two, and so many days have passed before March, so the difference never goes below zero.
-- Assumes nothing.
use native.Mathlib.Omega.{arith}
use Rattle.calendar.proofs.Months.{behind-small, months-early, months_late}
use Rattle.calendar.proofs.days.months_in_days.Goals as goal

pub returns-then-month-le2 : goal.returns-then-month-le2
returns-then-month-le2 c = months-early c.args.leap c.args.month c.if-month-le2.true

pub overflow_sub-result-3 : goal.overflow_sub-result-3
overflow_sub-result-3 c = omega (arith, c.behind.ensures, behind-small c.args.leap)

pub returns : goal.returns
returns c = months_late c.args.leap c.args.month c.behind.result c.behind.ensures c.if-month-le2.false
