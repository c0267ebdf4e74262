-- One sample more: its offset fits since the samples are of one second and few. Assumes nothing.
use mathlib.Core.Path.{◌≡◌, refl, sym, ap, ap₂, ◌∙◌, subst}
use mathlib.Core.List.{List, [], ◌∷◌, ◌++◌}
use Prim.Native.Nat.{ℕ, ◌+◌, ◌-◌, ◌<◌, min}
use native.Mathlib.Nat.{le_trans}
use native.Mathlib.Omega.{arith}
use lib.IntN.{ℤ, pos, ◌+ℤ◌, ◌-ℤ◌}
use lib.Signed.{quot_z}
use lib.ListN.{length, get_or, take, drop, length-append}
use lib.Seq.{take_all}
use lib.Ieee.{Float, nan, of_bits}
use mir.Syntax.{w64}
use mir.Val.{SFits, to_z}
use mir.ValLaws.{to_z-of_z}
use Rattle.std.proofs.lemmas.Slice.Zip.{zip_turn, zip_end}
use Rattle.common.proofs.Parts.{back}
use Rattle.common.specs.Numbers.{nought}
use Rattle.common.specs.Rounded.{◌⊕◌}
use Rattle.common.specs.Sums.{sum_from}
use Rattle.common.specs.Time.{microsecond}
use Rattle.common.proofs.Sums.{sum_step, sum_end}
use Rattle.samples.specs.Means.{recording, frequencies, offset_sum}
use Rattle.samples.proofs.Gaps.{Near, divided}
use Rattle.samples.proofs.Recordings.{record_length, record_frequencies}
use Rattle.samples.proofs.SumsOfSeconds.{OfSecond, offsets_more, offsets_fit}
use Rattle.samples.proofs.sums.run_sums.Goals as goal

pub loop-t-init : goal.loop-t-init
unfolding offset_sum of_bits
loop-t-init c =
    let fs = c.args.samples.now.frequencies.now in
    (refl, ap (sum_from nought) (take_all (length fs - 0) fs (omega arith)))

-- one sample more, of instant t and frequency f
module _ (ts : List ℤ) (fs : List Float) (o : OfSecond ts fs) (k n : ℕ) (h : k < length ts) (next : n ≡ k + 1) (t : ℤ) (et : t ≡ get_or ts k (pos 0)) (micros : ℤ) (em : micros ≡ offset_sum (get_or ts 0 (pos 0)) (take k (recording ts fs))) where
  near : (j : ℕ) → Near (get_or ts j (pos 0))
  near j = le_trans (o.recorded.near j) (omega arith)

  pub added : micros +ℤ back (quot_z (back (back t -ℤ back (get_or ts 0 (pos 0)))) (pos microsecond)) ≡ offset_sum (get_or ts 0 (pos 0)) (take n (recording ts fs))
  added =
      ap₂ ◌+ℤ◌ em (ap (λ (z : ℤ). back (quot_z (back (back z -ℤ back (get_or ts 0 (pos 0)))) (pos microsecond))) et ∙ divided (get_or ts k (pos 0)) (get_or ts 0 (pos 0)) (near k) (near 0) microsecond)
      ∙ offsets_more ts fs o k h
      ∙ ap (λ (m : ℕ). offset_sum (get_or ts 0 (pos 0)) (take m (recording ts fs))) (sym next)

  pub fits : SFits w64 (micros +ℤ back (quot_z (back (back t -ℤ back (get_or ts 0 (pos 0)))) (pos microsecond)))
  fits = subst (SFits w64) (sym added) (offsets_fit ts fs o n (omega arith))

  pub read_back : back (micros +ℤ back (quot_z (back (back t -ℤ back (get_or ts 0 (pos 0)))) (pos microsecond))) ≡ offset_sum (get_or ts 0 (pos 0)) (take n (recording ts fs))
  read_back = ap back added ∙ to_z-of_z w64 (offset_sum (get_or ts 0 (pos 0)) (take n (recording ts fs))) (offsets_fit ts fs o n (omega arith))

pub overflow_add-micros : goal.overflow_add-micros
overflow_add-micros c =
    let s = c.args.samples.now in
    let at = c.loop-t in
    let turn = zip_turn s.instants.now s.frequencies.now at.yielded c.into_iter-t-iterator.result at.t-iterator c.next.new.self c.next.result (cc) (cc) at.yielded_by (c.in-Some.t, c.in-Some.f) c.in-Some.is c.next.ensures.steps in
    let o : OfSecond s.instants.now s.frequencies.now = record { recorded = s.checked; same = c.requires } in
    fits s.instants.now s.frequencies.now o (length at.yielded) (length at.yielded + 1) turn.0 refl c.in-Some.t.now (turn.2 (pos 0)) (to_z w64 at.micros-bits) at.invariant.0

pub loop-t-preserved : goal.loop-t-preserved
loop-t-preserved c =
    let s = c.args.samples.now in
    let at = c.loop-t in
    let turn = zip_turn s.instants.now s.frequencies.now at.yielded c.into_iter-t-iterator.result at.t-iterator c.next.new.self c.next.result (cc) (cc) at.yielded_by (c.in-Some.t, c.in-Some.f) c.in-Some.is c.next.ensures.steps in
    let o : OfSecond s.instants.now s.frequencies.now = record { recorded = s.checked; same = c.requires } in
    let fs = s.frequencies.now in
    let k = length at.yielded in
    let next = length-append at.yielded ((c.in-Some.t, c.in-Some.f) ∷ []) in (
      read_back s.instants.now fs o k (length (at.yielded ++ (c.in-Some.t, c.in-Some.f) ∷ [])) turn.0 next c.in-Some.t.now (turn.2 (pos 0)) (to_z w64 at.micros-bits) at.invariant.0,
      ap₂ (λ (f : Float) (m : ℕ). sum_from (at.hertz ⊕ f) (take (length fs - m) (drop m fs))) (turn.3 nan) next
          ∙ sum_step at.hertz fs k (length fs) turn.1 (omega arith)
          ∙ at.invariant.1,
    )

pub returns : goal.returns
returns c =
    let at = c.loop-t in
    let ts = c.args.samples.now.instants.now in
    let fs = c.args.samples.now.frequencies.now in
    let S = recording ts fs in
    let same = c.args.samples.now.checked.same in
    let k : length at.yielded ≡ min (length ts) (length fs) = zip_end ts fs at.yielded c.into_iter-t-iterator.result at.t-iterator c.next.new.self c.next.result (cc) (cc) at.yielded_by c.in-None.is c.next.ensures.steps in
    let micros : to_z w64 at.micros-bits ≡ offset_sum (get_or ts 0 (pos 0)) S = at.invariant.0 ∙ ap (offset_sum (get_or ts 0 (pos 0))) (take_all (length at.yielded) S (omega (arith, record_length ts fs same))) in
    let hertz : at.hertz ≡ sum_from nought (frequencies S) = sym (sum_end at.hertz fs (length at.yielded) (length fs) (omega (arith, same))) ∙ at.invariant.1 ∙ ap (sum_from nought) (sym (record_frequencies ts fs same)) in
    cc
