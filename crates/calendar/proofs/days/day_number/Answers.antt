-- The two formulas are the sums over the years and over the months. Assumes nothing.
use Rattle.calendar.proofs.DayNumbers.{day_number_by}
use Rattle.calendar.proofs.days.day_number.Goals as goal

pub returns : goal.returns
returns c =
    rw c.from-3.ensures
    (day_number_by c.args.c c.requires c.years_in_days-years.result c.months_in_days-months.result
    (rw c.from.ensures at c.years_in_days-years.ensures) c.is_leap.ensures (rw c.from-2.ensures at c.months_in_days-months.ensures))
