-- The checks of a pass hold those of the means, so these are written; the fit runs on the front of the two areas, which holds them. Assumes nothing.
use mathlib.Core.Path.{◌≡◌, refl, sym, ap, ap₂, ◌∙◌, subst}
use mathlib.Core.List.{List}
use Prim.Native.Nat.{ℕ, ◌≤◌}
use native.Mathlib.Nat.{le_trans, le_of_eq}
use native.Mathlib.Omega.{arith}
use lib.IntN.{ℤ}
use lib.ListN.{length, take, length-map}
use lib.Ieee.{Float, of_bits}
use Rattle.units.specs.declared.Settings.{Settings}
use Rattle.common.specs.Outcome.{Outcome, answered, outcome, area, written}
use Rattle.checks.proofs.Checked.{pass-table, pass-samples, pass_areas, means-pass}
use Rattle.checks.specs.Checked.{Table, Samples}
use Rattle.common.proofs.Outcomes.{unless_none}
use Rattle.samples.specs.Means.{Sample, recording, means, instants, frequencies, downsample_refusal}
use Rattle.samples.proofs.Seconds.{few-means}
use Rattle.samples.proofs.Recordings.{record_length}
use Rattle.orbit.specs.Fit.{fit_of}
use Rattle.orbit.specs.Residuals.{Inputs, inputs_of}
use Rattle.orbit.specs.Passes.{measured_by, measured_of, pass_outcome, pass_refusal}
use Rattle.orbit.proofs.Trials.{length_front}
use Rattle.orbit.proofs.Middles.{by_parts, means-sampled, front, same_count, not_refused}
use Rattle.orbit.proofs.passes.pass.Goals as goal

-- what a call is given: the table, the recording, the rest, and what the two areas hold
record Given : Type 0 where
  times : List ℤ
  positions : List Float
  ts : List ℤ
  fs : List Float
  settings : Settings
  is : List ℤ
  hs : List Float

abbrev given_by : List ℤ → List Float → List ℤ → List Float → Settings → List ℤ → List Float → Given
given_by times positions ts fs settings is hs = record { times = times; positions = positions; ts = ts; fs = fs; settings = settings; is = is; hs = hs }

module _ (g : Given) where
  abbrev inputs : Inputs
  inputs = inputs_of g.times g.positions g.settings

  abbrev refusal : ℕ
  refusal = pass_refusal inputs g.ts g.fs g.is g.hs

  abbrev the_means : List Sample
  the_means = means (recording g.ts g.fs)

  -- where no check failed
  module _ (none : refusal ≡ 0) where
    tabled : Table g.times g.positions
    tabled = pass-table g.times g.positions g.ts g.fs g.settings g.is g.hs none

    passed : Samples g.ts g.fs
    passed = pass-samples g.times g.positions g.ts g.fs g.settings g.is g.hs none

    room : (length g.ts ≤ length g.is) × (length g.ts ≤ length g.hs)
    room = pass_areas g.times g.positions g.ts g.fs g.settings g.is g.hs none

    no_refusal : downsample_refusal g.ts g.fs g.is g.hs ≡ 0
    no_refusal = means-pass g.ts g.fs passed g.is g.hs room.0 room.1

    -- so the count is that of the means, which stand at the front of the areas
    count_is : (o : Outcome ℕ) → o ≡ outcome (downsample_refusal g.ts g.fs g.is g.hs) (length the_means) → o ≡ answered (length the_means)
    count_is o e = e ∙ ap (λ (n : ℕ). outcome n (length the_means)) no_refusal

    instants-written : (l : List ℤ) → l ≡ area (downsample_refusal g.ts g.fs g.is g.hs) (instants the_means) g.is → l ≡ written (instants the_means) g.is
    instants-written l e = e ∙ ap (λ (n : ℕ). area n (instants the_means) g.is) no_refusal

    frequencies-written : (l : List Float) → l ≡ area (downsample_refusal g.ts g.fs g.is g.hs) (frequencies the_means) g.hs → l ≡ written (frequencies the_means) g.hs
    frequencies-written l e = e ∙ ap (λ (n : ℕ). area n (frequencies the_means) g.hs) no_refusal

    -- and the pass promises the same of them
    instants_promised : (l : List ℤ) → l ≡ area (downsample_refusal g.ts g.fs g.is g.hs) (instants the_means) g.is → l ≡ area refusal (instants the_means) g.is
    instants_promised l e = instants-written l e ∙ ap (λ (n : ℕ). area n (instants the_means) g.is) (sym none)

    frequencies_promised : (l : List Float) → l ≡ area (downsample_refusal g.ts g.fs g.is g.hs) (frequencies the_means) g.hs → l ≡ area refusal (frequencies the_means) g.hs
    frequencies_promised l e = frequencies-written l e ∙ ap (λ (n : ℕ). area n (frequencies the_means) g.hs) (sym none)

    -- n of them, for which there is room
    module _ (n : ℕ) (told : answered n ≡ outcome (downsample_refusal g.ts g.fs g.is g.hs) (length the_means)) where
      told_is : n ≡ length the_means
      told_is = same_count n (length the_means) (count_is (answered n) told)

      few : n ≤ length g.ts
      few = let u = few-means (recording g.ts g.fs) in let v = record_length g.ts g.fs passed.same in omega (arith, u, v, told_is)

      in_instants : (l : List ℤ) → length l ≡ length g.is → n ≤ length l
      in_instants l s = le_trans few (le_trans room.0 (le_of_eq (sym s)))

      in_frequencies : (l : List Float) → length l ≡ length g.hs → n ≤ length l
      in_frequencies l s = le_trans few (le_trans room.1 (le_of_eq (sym s)))

      module _ (l : List ℤ) (k : List Float) (el : l ≡ area (downsample_refusal g.ts g.fs g.is g.hs) (instants the_means) g.is) (ek : k ≡ area (downsample_refusal g.ts g.fs g.is g.hs) (frequencies the_means) g.hs) where
        instants_front : take n l ≡ instants the_means
        instants_front = front (instants the_means) g.is l n (told_is ∙ sym (length-map the_means (λ (x : Sample). x.instant))) (instants-written l el)

        frequencies_front : take n k ≡ frequencies the_means
        frequencies_front = front (frequencies the_means) g.hs k n (told_is ∙ sym (length-map the_means (λ (x : Sample). x.frequency))) (frequencies-written k ek)

        front_sampled : Samples (take n l) (take n k)
        front_sampled = subst (λ (t : List ℤ). Samples t (take n k)) (sym instants_front) (subst (Samples (instants the_means)) (sym frequencies_front) (means-sampled g.ts g.fs passed))

        -- the fit of them is the outcome of the pass
        front_fitted : fit_of inputs (recording (take n l) (take n k)) (measured_by (take n l) (take n k)) ≡ pass_outcome inputs (recording g.ts g.fs)
        front_fitted =
            ap₂ (λ (t : List ℤ) (f : List Float). fit_of inputs (recording t f) (measured_by t f)) instants_front frequencies_front
            ∙ ap (λ (S : List Sample). fit_of inputs S (measured_of the_means)) (by_parts the_means)

pub returns-in_err-count : goal.returns-in_err-count
returns-in_err-count c =
    let a = c.args in
    let g = given_by a.instants.now a.positions.now a.samples.now a.frequencies.now a.settings a.mean_instants.now a.mean_frequencies.now in
    absurd (not_refused _ _ (count_is g (sym c.in_ok-refuse_pass.ensures) _ c.in_err-count.ensures.result_value))

pub invariant_of-table : goal.invariant_of-table
invariant_of-table c =
    let a = c.args in
    let g = given_by a.instants.now a.positions.now a.samples.now a.frequencies.now a.settings a.mean_instants.now a.mean_frequencies.now in
    record { checked = tabled g (sym c.in_ok-refuse_pass.ensures) }

pub slice_bounds-recording-end : goal.slice_bounds-recording-end
slice_bounds-recording-end c =
    let a = c.args in
    let g = given_by a.instants.now a.positions.now a.samples.now a.frequencies.now a.settings a.mean_instants.now a.mean_frequencies.now in
    let d = c.downsample_data in
    in_instants g (sym c.in_ok-refuse_pass.ensures) c.in_ok-count.count c.in_ok-count.ensures.result_value d.new.mean_instants d.auto.mean_instants

pub slice_bounds-recording-end-2 : goal.slice_bounds-recording-end-2
slice_bounds-recording-end-2 c =
    let a = c.args in
    let g = given_by a.instants.now a.positions.now a.samples.now a.frequencies.now a.settings a.mean_instants.now a.mean_frequencies.now in
    let d = c.downsample_data in
    sym (length_front d.new.mean_instants c.in_ok-count.count (in_instants g (sym c.in_ok-refuse_pass.ensures) c.in_ok-count.count c.in_ok-count.ensures.result_value d.new.mean_instants d.auto.mean_instants))

pub slice_bounds-recording-end-3 : goal.slice_bounds-recording-end-3
slice_bounds-recording-end-3 c =
    let a = c.args in
    let g = given_by a.instants.now a.positions.now a.samples.now a.frequencies.now a.settings a.mean_instants.now a.mean_frequencies.now in
    let d = c.downsample_data in
    in_frequencies g (sym c.in_ok-refuse_pass.ensures) c.in_ok-count.count c.in_ok-count.ensures.result_value d.new.mean_frequencies d.auto.mean_frequencies

pub slice_bounds-recording-end-4 : goal.slice_bounds-recording-end-4
slice_bounds-recording-end-4 c =
    let a = c.args in
    let g = given_by a.instants.now a.positions.now a.samples.now a.frequencies.now a.settings a.mean_instants.now a.mean_frequencies.now in
    let d = c.downsample_data in
    sym (length_front d.new.mean_frequencies c.in_ok-count.count (in_frequencies g (sym c.in_ok-refuse_pass.ensures) c.in_ok-count.count c.in_ok-count.ensures.result_value d.new.mean_frequencies d.auto.mean_frequencies))

pub invariant_of-recording : goal.invariant_of-recording
invariant_of-recording c =
    let a = c.args in
    let g = given_by a.instants.now a.positions.now a.samples.now a.frequencies.now a.settings a.mean_instants.now a.mean_frequencies.now in
    let d = c.downsample_data in
    record { checked = front_sampled g (sym c.in_ok-refuse_pass.ensures) c.in_ok-count.count c.in_ok-count.ensures.result_value d.new.mean_instants d.new.mean_frequencies d.ensures.mean_instants_after d.ensures.mean_frequencies_after }

pub returns : goal.returns
unfolding of_bits
returns c =
    let a = c.args in
    let g = given_by a.instants.now a.positions.now a.samples.now a.frequencies.now a.settings a.mean_instants.now a.mean_frequencies.now in
    let d = c.downsample_data in
    let none = sym c.in_ok-refuse_pass.ensures in
    let n = c.in_ok-count.count in
    let S = recording (take n d.new.mean_instants) (take n d.new.mean_frequencies) in
    record {
      result_value = c.fit_about.ensures
          ∙ ap (fit_of (inputs g) S) c.approach_or_middle.ensures
          ∙ front_fitted g none n c.in_ok-count.ensures.result_value d.new.mean_instants d.new.mean_frequencies d.ensures.mean_instants_after d.ensures.mean_frequencies_after
          ∙ unless_none 0 (refusal g) (pass_outcome (inputs g) (recording g.ts g.fs)) c.in_ok-refuse_pass.ensures refl;
      mean_instants_after = instants_promised g none d.new.mean_instants d.ensures.mean_instants_after;
      mean_frequencies_after = frequencies_promised g none d.new.mean_frequencies d.ensures.mean_frequencies_after;
    }
