-- Year and month are tested, and of a real month the day. Assumes nothing.
use Rattle.std.proofs.Common.{◌≡◌, ℕ, Bool, true, false, Some, sym, ◌∙◌, arith, leb, nat_cmp, is_le, ◌&&◌}
use Rattle.std.proofs.lemmas.Bool.Decides.{nat_tests}
use Rattle.std.specs.Range.{range_inclusive_contains, range_inclusive_start, range_inclusive_end, range_inclusive_exhausted}
use Rattle.std.specs.declared.ops.RangeInclusive.{RangeInclusive}
use Rattle.calendar.specs.Gregorian.{leap, days_of_month, last_year, months_in_year, real_date}
use Rattle.calendar.specs.declared.gregorian.Calendar.{Calendar}
use Rattle.calendar.proofs.Tests.{both}
use Rattle.calendar.proofs.gregorian.is_date.Goals as goal
use Rattle.calendar.proofs.gregorian.is_date.Goals.{then-contains, else-contains}

le_is : (a b : ℕ) → is_le (nat_cmp a b) ≡ leb a b
le_is a b = grind (arith, nat_tests)

tested : (s : RangeInclusive ℕ) (a b x : ℕ) (r : Bool)
    → r ≡ range_inclusive_contains (λ x y. Some (nat_cmp x y)) s x
    → range_inclusive_start s ≡ a → range_inclusive_end s ≡ b → range_inclusive_exhausted s ≡ false → r ≡ leb a x && leb x b
tested s a b x r e f g h = e ∙ simp (f, g, h, le_is)

dated : (c : Calendar) {r p q l : Bool} {k : ℕ}
    → p ≡ true → p ≡ leb 1 c.year && leb c.year last_year → q ≡ true → q ≡ leb 1 c.month && leb c.month months_in_year
    → l ≡ leap c.year → k ≡ days_of_month l c.month → r ≡ leb 1 c.day && leb c.day k → r ≡ real_date c
dated c a b d e f g h =
    let y = both (leb 1 c.year) (leb c.year last_year) (sym b ∙ a) in
    let m = both (leb 1 c.month) (leb c.month months_in_year) (sym e ∙ d) in
    h ∙ simp (y.0, y.1, m.0, m.1, g, f)

pub returns-then-contains-2 : goal.returns-then-contains-2
returns-then-contains-2 c =
    let d = c.args.c in
    let n = c.new.ensures in
    let k = c.new-then-contains-2.ensures in
    let day = tested c.new-then-contains-2.result 1 c.month_length.result d.day _ c.contains-then-contains-2.ensures.value k.start k.end k.exhausted in
    elim c.if-contains.branch [
      | then-contains w ↦
          let m = w.new-then-contains.ensures in
          let year = tested c.new.result 1 last_year d.year _ c.contains.ensures.value n.start n.end n.exhausted in
          let month = tested w.new-then-contains.result 1 months_in_year d.month _ w.contains-then-contains.ensures.value m.start m.end m.exhausted in
          dated d w.if-contains.true year (sym w.value-is ∙ c.if-contains-2.true) month c.is_leap.ensures c.month_length.ensures day
      | else-contains w ↦ cc
    ]
