-- Of a real date and time far seconds are beyond check 4, whatever nanoseconds are added; the others, with their nanoseconds, are the instant, and
-- check 4 decides. Assumes nothing.
use Rattle.std.proofs.Common.{◌≡◌, Bool, true, false, cond, Ok, Err, sym, ap, ◌∙◌, ℤ, pos, ◌+ℤ◌, ◌*ℤ◌, to_z, of_z, w64}
use mir.Val.{SFits}
use mir.ValLaws.{to_z-of_z}
use Rattle.common.specs.Time.{second}
use Rattle.checks.specs.Checks.{beyond}
use Rattle.calendar.specs.declared.gregorian.Calendar.{Calendar}
use Rattle.calendar.specs.declared.instants.InstantError.TheVariants.{Unreal, Beyond}
use Rattle.calendar.specs.Gregorian.{real}
use Rattle.calendar.specs.Instants.{since1970, lessened, within, instant_of}
use Rattle.calendar.specs.Formulas.{seconds_less, far}
use Rattle.calendar.proofs.Reals.{facts}
use Rattle.calendar.proofs.Moments.{seconds-first, far_is_beyond}
use Rattle.calendar.proofs.instants.instant_of.Goals as goal

module _ (d : Calendar) (leaps s : ℤ) (is_real : real d ≡ true) (seconds : s ≡ seconds_less d leaps) where
  -- the instant of the calendar, and the answer by the test on it
  abbrev here : ℤ
  here = lessened (since1970 d) leaps

  by_test : (y : Bool) → beyond here ≡ y → instant_of d leaps ≡ cond y (Err Beyond) (Ok (record { 0 = here }))
  by_test y e = ap (λ (v : Bool). cond v (within here) (Err Unreal)) is_real ∙ ap (λ (v : Bool). cond v (Err Beyond) (Ok (record { 0 = here }))) e

  too_far : far s ≡ true → Err Beyond ≡ instant_of d leaps
  too_far e = sym (by_test true (far_is_beyond d leaps (facts d is_real) (sym (ap far seconds) ∙ e)))

  module _ (t : ℤ) (joined : t ≡ s *ℤ pos second +ℤ pos d.nanosecond) where
    moment : t ≡ here
    moment = joined ∙ ap (λ (z : ℤ). z *ℤ pos second +ℤ pos d.nanosecond) seconds ∙ sym (seconds-first d leaps)

    past_limit : beyond t ≡ true → Err Beyond ≡ instant_of d leaps
    past_limit e = sym (by_test true (sym (ap beyond moment) ∙ e))

    within_limit : beyond t ≡ false → Ok (record { 0 = t }) ≡ instant_of d leaps
    within_limit e = ap (λ (z : ℤ). Ok (record { 0 = z })) moment ∙ sym (by_test false (sym (ap beyond moment) ∙ e))

-- what the machine holds is the number that was put there
kept : (z : ℤ) → SFits w64 z → to_z w64 (of_z w64 z) ≡ z
kept z h = to_z-of_z w64 z h

pub returns-then-is_far : goal.returns-then-is_far
returns-then-is_far c =
    let s = kept c.seconds_less-seconds.result (record { sfits = c.seconds_less-seconds.type_inv }) ∙ c.seconds_less-seconds.ensures in
    too_far c.args.c c.args.leap_seconds.0 _ (sym c.is_real.ensures ∙ c.if-not-is_real.false) s (sym c.is_far.ensures ∙ c.if-is_far.true)

pub returns-then-beyond : goal.returns-then-beyond
returns-then-beyond c =
    let s = kept c.seconds_less-seconds.result (record { sfits = c.seconds_less-seconds.type_inv }) ∙ c.seconds_less-seconds.ensures in
    past_limit c.args.c c.args.leap_seconds.0 _ (sym c.is_real.ensures ∙ c.if-not-is_real.false) s c.joined-t.result.0 c.joined-t.ensures
    (sym c.beyond.ensures ∙ c.if-beyond.true)

pub returns : goal.returns
returns c =
    let s = kept c.seconds_less-seconds.result (record { sfits = c.seconds_less-seconds.type_inv }) ∙ c.seconds_less-seconds.ensures in
    within_limit c.args.c c.args.leap_seconds.0 _ (sym c.is_real.ensures ∙ c.if-not-is_real.false) s c.joined-t.result.0 c.joined-t.ensures
    (sym c.beyond.ensures ∙ c.if-beyond.false)
