-- A date and time that passes the test has every fact that the inner functions rely on. Assumes nothing.
use mathlib.Core.Path.{◌≡◌}
use mathlib.Core.Bool.{true}
use borrow.Author.Tests.{leb-true, ltb-true}
use lib.Dec.{leb, ltb}
use Rattle.common.specs.Time.{second}
use Rattle.calendar.specs.declared.gregorian.Calendar.{Calendar}
use Rattle.calendar.specs.Gregorian.{leap, days_of_month, last_year, months_in_year, hours_in_day, minutes_in_hour, seconds_in_minute, real_date, real_time, real}
use Rattle.calendar.specs.Formulas.{RealDate, RealTime, Real}
use Rattle.calendar.proofs.Tests.{both, all_four, all_six}

date_facts : (c : Calendar) → real_date c ≡ true → RealDate c
date_facts c h =
    let t = all_six (leb 1 c.year) (leb c.year last_year) (leb 1 c.month) (leb c.month months_in_year) (leb 1 c.day) (leb c.day (days_of_month (leap c.year) c.month)) h in
    record {
      year_from = leb-true _ _ t.0;
      year_to = leb-true _ _ t.1;
      month_from = leb-true _ _ t.2;
      month_to = leb-true _ _ t.3;
      day_from = leb-true _ _ t.4;
      day_to = leb-true _ _ t.5;
    }

time_facts : (c : Calendar) → real_time c ≡ true → RealTime c
time_facts c h =
    let t = all_four (ltb c.hour hours_in_day) (ltb c.minute minutes_in_hour) (ltb c.second seconds_in_minute) (ltb c.nanosecond second) h in
    record { hour_to = ltb-true _ _ t.0; minute_to = ltb-true _ _ t.1; second_to = ltb-true _ _ t.2; nanosecond_to = ltb-true _ _ t.3 }

pub facts : (c : Calendar) → real c ≡ true → Real c
facts c h = let t = both (real_date c) (real_time c) h in record { date = date_facts c t.0; time = time_facts c t.1 }
