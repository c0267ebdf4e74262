-- The values so far and the residuals of the samples that are left make up those of the whole recording. Assumes nothing.
use mathlib.Core.Path.{◌≡◌, sym, ap, ◌∙◌, subst}
use mathlib.Core.Logic.{◌⊎◌, inl, inr}
use mathlib.Core.List.{List, ◌++◌}
use Prim.Native.Nat.{suc, ◌≤◌}
use native.Mathlib.Omega.{arith}
use lib.IntN.{ℤ, pos, nat_abs, ◌-ℤ◌, ◌*ℤ◌}
use lib.ListN.{length, take, length-set}
use lib.Ieee.{Float}
use borrow.Author.Rules.{rules}
use Rattle.common.specs.Time.{microsecond}
use Rattle.checks.specs.Limits.{farthest_instant}
use Rattle.samples.specs.Means.{recording}
use Rattle.orbit.specs.Residuals.{skipped, residual, residual_in, residuals, propagated_by}
use Rattle.orbit.specs.Fitting.{inputs_by, sampled_by}
use Rattle.orbit.proofs.Collected.{one_residual, no_residual, residuals_end, pushed}
use Rattle.orbit.proofs.Offsets.{near_is}
use Rattle.orbit.proofs.fitting.Fitting.collect_residuals.Invariants.{residual_by}
use Rattle.orbit.proofs.fitting.Fitting.collect_residuals.Goals as goal

pub loop-t-init : goal.loop-t-init
loop-t-init c =
    let r = c.args.self.now.recording in
    let given = c.into_iter-t-iterator.ensures.into_iter_gives in
    let z = c.zip-t-items.ensures in
    let i = c.iter.ensures.rest in
    let first : c.into_iter-t-iterator.result.a.rest.now ≡ r.instants.now = cc (given, z.first, i) in
    let second : c.into_iter-t-iterator.result.b.rest.now ≡ r.frequencies.now = search rules in
    record {
      few = omega (arith, ap length first);
      room = search rules;
      near = λ k. rw first (r.checked.near k);
      made = rw (first, second);
    }

pub invariant_of-moved_earlier : goal.invariant_of-moved_earlier
invariant_of-moved_earlier c =
    let x = c.in-Some.t.now in
    let near : nat_abs x ≤ farthest_instant = rw c.in-Some.ensures.steps.0 at c.loop-t.invariant.near 0 in
    record { near = subst (λ (z : ℤ). nat_abs z ≤ farthest_instant) (sym (near_is x near)) near }

pub loop-t-preserved-in-Some-residual : goal.loop-t-preserved-in-Some-residual
loop-t-preserved-in-Some-residual c =
    let self = c.args.self.now in
    let at = c.loop-t in
    let s = c.in-Some.ensures.steps in
    let i = inputs_by self in
    let x = c.in-Some.t.now in
    let micros = c.microseconds_of-micros.result.count in
    let f = residual_by i micros in
    let y = c.in-Some-residual.residual.0 in
    let left : length at.t-iterator.a.rest.now ≡ suc (length c.next.new.self.a.rest.now) = ap length s.0 in
    let near : nat_abs x ≤ farthest_instant = rw s.0 at at.invariant.near 0 in
    let moved : c.moved_earlier-moved.result.0 ≡ x -ℤ micros *ℤ pos microsecond = c.moved_earlier-moved.ensures ∙ ap (λ (z : ℤ). z -ℤ micros *ℤ pos microsecond) (near_is x near) in
    let e : residual y ≡ f (record { instant = x; frequency = c.in-Some.f.now }) = c.in-Some-residual.ensures ∙ ap (λ (z : ℤ). residual_in i.settings c.in-Some.f.now (propagated_by i z)) moved in
    record {
      few = omega (arith, left, at.invariant.few);
      room = length-set at.values at.count y ∙ at.invariant.room;
      near = λ k. rw s.0 at at.invariant.near (suc k);
      made =
          ap (λ (l : List Float). l ++ residuals f (recording c.next.new.self.a.rest.now c.next.new.self.b.rest.now)) (pushed at.values at.count y (omega (arith, left, at.invariant.few, at.invariant.room, self.recording.checked.few)))
          ∙ one_residual f at.t-iterator.a.rest.now at.t-iterator.b.rest.now (take at.count at.values) x c.in-Some.f.now c.next.new.self.a.rest.now c.next.new.self.b.rest.now s.0 s.1 y e
          ∙ at.invariant.made;
    }

pub loop-t-preserved : goal.loop-t-preserved
loop-t-preserved c =
    let self = c.args.self.now in
    let at = c.loop-t in
    let s = c.in-Some.ensures.steps in
    let i = inputs_by self in
    let x = c.in-Some.t.now in
    let micros = c.microseconds_of-micros.result.count in
    let f = residual_by i micros in
    let left : length at.t-iterator.a.rest.now ≡ suc (length c.next.new.self.a.rest.now) = ap length s.0 in
    let near : nat_abs x ≤ farthest_instant = rw s.0 at at.invariant.near 0 in
    let moved : c.moved_earlier-moved.result.0 ≡ x -ℤ micros *ℤ pos microsecond = c.moved_earlier-moved.ensures ∙ ap (λ (z : ℤ). z -ℤ micros *ℤ pos microsecond) (near_is x near) in
    let e : skipped ≡ f (record { instant = x; frequency = c.in-Some.f.now }) = c.in_default.ensures ∙ ap (λ (z : ℤ). residual_in i.settings c.in-Some.f.now (propagated_by i z)) moved in
    record {
      few = omega (arith, left, at.invariant.few);
      room = at.invariant.room;
      near = λ k. rw s.0 at at.invariant.near (suc k);
      made =
          no_residual f at.t-iterator.a.rest.now at.t-iterator.b.rest.now (take at.count at.values) x c.in-Some.f.now c.next.new.self.a.rest.now c.next.new.self.b.rest.now s.0 s.1 e
          ∙ at.invariant.made;
    }

pub returns : goal.returns
returns c =
    let self = c.args.self.now in
    let at = c.loop-t in
    let i = inputs_by self in
    let micros = c.microseconds_of-micros in
    let ss = at.t-iterator.a.rest.now in
    let bs = at.t-iterator.b.rest.now in
    let ended : (length ss ≡ 0) ⊎ (length bs ≡ 0) = elim c.in-None.ensures.steps [ inl w ↦ inl w.1.0 | inr w ↦ inr w.1.0 ] in (
      omega (arith, at.invariant.few),
      sym (residuals_end (residual_by i micros.result.count) ss bs (take at.count at.values) ended)
          ∙ at.invariant.made
          ∙ ap (λ (z : ℤ). residuals (residual_by i z) (sampled_by self)) micros.ensures,
    )
