-- Each sample's instant is a checked one, and those of the filter are the definition's. Assumes nothing.
use mathlib.Core.Path.{sym, ap, ap₂, ◌∙◌, subst}
use mathlib.Core.Bool.{Bool}
use mathlib.Core.List.{List}
use Prim.Native.Nat.{◌≤◌}
use lib.IntN.{ℤ, pos, nat_abs, ◌-ℤ◌, ◌*ℤ◌}
use Rattle.std.proofs.Common.{rules}
use Rattle.std.proofs.lemmas.Iterator.{YieldsList-from_slice}
use Rattle.std.proofs.lemmas.Iterator.Adapters.{serves_from_places}
use Rattle.std.proofs.lemmas.Iterator.Consumers.{YieldsList-at, YieldsList-from_filter, count_from_yields_List}
use Rattle.std.proofs.lemmas.List.{get_or_default}
use Rattle.common.specs.Time.{microsecond}
use Rattle.checks.specs.Limits.{farthest_instant}
use Rattle.orbit.specs.Place.{place_of, is_outside}
use Rattle.orbit.specs.Residuals.{lies_outside}
use Rattle.orbit.proofs.Offsets.{back, near_is}
use Rattle.orbit.proofs.Collected.{filter_is}
use borrow.Author.Tests.{tests}
use Rattle.orbit.proofs.fitting.Fitting.count_outside.Goals as goal

-- whether an instant that is moved earlier by a count of microseconds lies outside
abbrev outside_by : List ℤ → ℤ → ℤ → Bool
outside_by instants micros t = is_outside (place_of instants (t -ℤ micros *ℤ pos microsecond))

pub count-requires-clause-can : goal.count-requires-clause-can
count-requires-clause-can c =
    let samples = c.args.self.now.recording in
    let ts = samples.instants.now in (
      tt,
      tt,
      serves_from_places (YieldsList-from_slice ts (cc)) (λ x q e. search (rules, tests))
          (λ x k l e y h. subst (λ (z : ℤ). nat_abs z ≤ farthest_instant) (sym (ap (λ p. p.now) h ∙ e ∙ get_or_default ts k x.now (pos 0) l)) (samples.checked.near k)),
    )

pub returns : goal.returns
returns c =
    let self = c.args.self.now in
    let instants = self.orbit.table.instants.now in
    let ts = self.recording.instants.now in
    let micros = c.microseconds_of-micros in
    let test : ℤ → Bool = λ t. outside_by instants micros.result.count (back t) in
    count_from_yields_List c.filter-outside.result c.count.result c.count.ensures.ran
    (YieldsList-from_filter _ test (YieldsList-at c.filter-outside.ensures.source (YieldsList-from_slice ts (cc))) c.filter-outside.ensures.closure (λ x b q k. search (rules, tests)))
    ∙ filter_is test (lies_outside instants c.args.shift.seconds.0) ts (λ k. ap₂ (outside_by instants) micros.ensures (near_is _ (self.recording.checked.near k)))
