-- By the first field that is no number; where all are, each is small enough for its place in a calendar. Assumes nothing.
use Rattle.std.proofs.Common.{◌≡◌, ℕ, List, Option, false, refl, sym, ap, ◌∙◌, arith}
use Rattle.decimal.specs.declared.reading.Number.{Number}
use Rattle.sp3.specs.declared.header.TimeSystem.{TimeSystem}
use Rattle.sp3.specs.Columns.{year_in, month_in, day_in, hour_in, minute_in, second_in, epoch_by, epoch_in}
use Rattle.sp3.proofs.Values.{field_small, pointed-small}
use Rattle.sp3.proofs.line.epoch_in.Goals as goal

by_fields : (sys : TimeSystem) (l : List ℕ) {fy fm fd fh fi fs : Option Number}
    → year_in l ≡ fy → month_in l ≡ fm → day_in l ≡ fd → hour_in l ≡ fh → minute_in l ≡ fi → second_in l ≡ fs → epoch_by sys fy fm fd fh fi fs ≡ epoch_in sys l
unfolding epoch_in
by_fields sys l {fy} {fm} {fd} {fh} {fi} {fs} ey em ed eh ei es =
    sym
    (ap (λ (f : Option Number). epoch_by sys f (month_in l) (day_in l) (hour_in l) (minute_in l) (second_in l)) ey
    ∙ ap (λ (f : Option Number). epoch_by sys fy f (day_in l) (hour_in l) (minute_in l) (second_in l)) em
    ∙ ap (λ (f : Option Number). epoch_by sys fy fm f (hour_in l) (minute_in l) (second_in l)) ed
    ∙ ap (λ (f : Option Number). epoch_by sys fy fm fd f (minute_in l) (second_in l)) eh
    ∙ ap (λ (f : Option Number). epoch_by sys fy fm fd fh f (second_in l)) ei
    ∙ ap (epoch_by sys fy fm fd fh fi) es)

pub returns-in_err-year : goal.returns-in_err-year
returns-in_err-year c =
    rw c.from_residual.ensures
    (by_fields c.args.system c.args.line.now (sym c.in_err-year.ensures) refl refl refl refl refl)

pub returns-in_err-month : goal.returns-in_err-month
returns-in_err-month c =
    rw c.from_residual-in_err-month.ensures
    (by_fields c.args.system c.args.line.now (sym c.in_ok-year.ensures) (sym c.in_err-month.ensures) refl refl refl refl)

pub returns-in_err-day : goal.returns-in_err-day
returns-in_err-day c =
    rw c.from_residual-in_err-day.ensures
    (by_fields c.args.system c.args.line.now (sym c.in_ok-year.ensures) (sym c.in_ok-month.ensures) (sym c.in_err-day.ensures) refl refl refl)

pub returns-in_err-hour : goal.returns-in_err-hour
returns-in_err-hour c =
    rw c.from_residual-in_err-hour.ensures
    (by_fields c.args.system c.args.line.now (sym c.in_ok-year.ensures) (sym c.in_ok-month.ensures) (sym c.in_ok-day.ensures) (sym c.in_err-hour.ensures) refl refl)

pub returns-in_err-minute : goal.returns-in_err-minute
returns-in_err-minute c =
    rw c.from_residual-in_err-minute.ensures
    (by_fields c.args.system c.args.line.now (sym c.in_ok-year.ensures) (sym c.in_ok-month.ensures) (sym c.in_ok-day.ensures) (sym c.in_ok-hour.ensures) (sym c.in_err-minute.ensures) refl)

pub returns-in_err-second : goal.returns-in_err-second
returns-in_err-second c =
    rw c.from_residual-in_err-second.ensures
    (by_fields c.args.system c.args.line.now (sym c.in_ok-year.ensures) (sym c.in_ok-month.ensures) (sym c.in_ok-day.ensures) (sym c.in_ok-hour.ensures) (sym c.in_ok-minute.ensures) (sym c.in_err-second.ensures))

pub overflow_cast-c : goal.overflow_cast-c
overflow_cast-c c = omega (arith, field_small 4 7 4 c.args.line.now c.in_ok-year.year (omega arith) refl (sym c.in_ok-year.ensures))

pub overflow_cast-c-2 : goal.overflow_cast-c-2
overflow_cast-c-2 c = omega (arith, field_small 9 10 2 c.args.line.now c.in_ok-month.month (omega arith) refl (sym c.in_ok-month.ensures))

pub overflow_cast-c-3 : goal.overflow_cast-c-3
overflow_cast-c-3 c = omega (arith, field_small 12 13 2 c.args.line.now c.in_ok-day.day (omega arith) refl (sym c.in_ok-day.ensures))

pub overflow_cast-c-4 : goal.overflow_cast-c-4
overflow_cast-c-4 c = omega (arith, field_small 15 16 2 c.args.line.now c.in_ok-hour.hour (omega arith) refl (sym c.in_ok-hour.ensures))

pub overflow_cast-c-5 : goal.overflow_cast-c-5
overflow_cast-c-5 c = omega (arith, field_small 18 19 2 c.args.line.now c.in_ok-minute.minute (omega arith) refl (sym c.in_ok-minute.ensures))

pub overflow_cast-c-6 : goal.overflow_cast-c-6
overflow_cast-c-6 c =
    omega (arith, pointed-small false 21 23 31 10 c.args.line.now c.in_ok-second.second (omega arith) (omega arith) refl (sym c.in_ok-second.ensures))

pub returns : goal.returns
returns c =
    c.epoch_under.ensures
    ∙ by_fields c.args.system c.args.line.now (sym c.in_ok-year.ensures) (sym c.in_ok-month.ensures) (sym c.in_ok-day.ensures) (sym c.in_ok-hour.ensures)
    (sym c.in_ok-minute.ensures) (sym c.in_ok-second.ensures)
