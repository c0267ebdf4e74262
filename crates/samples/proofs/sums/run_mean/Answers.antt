-- The sum over the count, and what is made of it, stay within a second of the first sample's instant, so nothing overflows; by the sums it is the samples' mean. Assumes nothing.
use mathlib.Core.Path.{◌≡◌, sym, ap, ap₂, ◌∙◌, subst}
use mathlib.Core.List.{List}
use native.Mathlib.Omega.{arith}
use lib.IntN.{ℤ, pos, ◌+ℤ◌, ◌*ℤ◌}
use lib.Signed.{quot_z}
use lib.ListN.{length}
use lib.Ieee.{Float}
use mir.Syntax.{w64}
use mir.Val.{SFits, to_z}
use mir.ValLaws.{to_z-of_z, to_z_pos}
use Rattle.common.proofs.Parts.{back}
use Rattle.common.specs.Numbers.{nought}
use Rattle.common.specs.Rounded.{◌⊘◌}
use Rattle.common.specs.Sums.{sum_from}
use Rattle.common.specs.Time.{microsecond}
use Rattle.float.specs.Conversions.{nearest_of}
use Rattle.samples.specs.declared.sums.Sums.{Sums}
use Rattle.samples.specs.Means.{recording, frequencies, offset_sum}
use Rattle.samples.specs.Sums.{as_mean}
use Rattle.samples.proofs.Limits.{limit_fits}
use Rattle.samples.proofs.SumsOfSeconds.{OfSecond, base, sum_fits, share, share_fits, offset_fits, mean_fits, mean_is}
use Rattle.samples.proofs.sums.run_mean.Goals as goal

-- what the machine computes on the way, of sums that are those over the samples
module _ (ts : List ℤ) (fs : List Float) (o : OfSecond ts fs) (micros : ℤ) (e : micros ≡ offset_sum (base ts fs o) (recording ts fs)) where
  count_is : to_z w64 (length ts) ≡ pos (length ts)
  count_is = to_z_pos w64 (length ts) (omega (arith, o.recorded.few))

  share_is : quot_z (back micros) (to_z w64 (length ts)) ≡ share ts fs o
  share_is = ap₂ quot_z (ap back e ∙ to_z-of_z w64 (offset_sum (base ts fs o) (recording ts fs)) (sum_fits ts fs o)) count_is

  offset_is : back (quot_z (back micros) (to_z w64 (length ts))) *ℤ pos microsecond ≡ share ts fs o *ℤ pos microsecond
  offset_is = ap (λ (z : ℤ). z *ℤ pos microsecond) (ap back share_is ∙ to_z-of_z w64 (share ts fs o) (share_fits ts fs o))

  instant_is : back (base ts fs o) +ℤ back (back (quot_z (back micros) (to_z w64 (length ts))) *ℤ pos microsecond) ≡ base ts fs o +ℤ share ts fs o *ℤ pos microsecond
  instant_is = ap₂ ◌+ℤ◌ (to_z-of_z w64 (base ts fs o) (limit_fits (base ts fs o) (o.recorded.near 0))) (ap back offset_is ∙ to_z-of_z w64 (share ts fs o *ℤ pos microsecond) (offset_fits ts fs o))

pub overflow_mul-result : goal.overflow_mul-result
overflow_mul-result c =
    let ts = c.args.samples.now.instants.now in
    let fs = c.args.samples.now.frequencies.now in
    let sums = c.run_sums-sums in
    subst (SFits w64) (sym (offset_is ts fs (record { recorded = c.args.samples.now.checked; same = c.requires }) sums.result.micros (ap (λ (x : Sums). x.micros) sums.ensures))) (offset_fits ts fs (record { recorded = c.args.samples.now.checked; same = c.requires }))

pub overflow_add-result : goal.overflow_add-result
overflow_add-result c =
    let ts = c.args.samples.now.instants.now in
    let fs = c.args.samples.now.frequencies.now in
    let sums = c.run_sums-sums in
    subst (SFits w64) (sym (instant_is ts fs (record { recorded = c.args.samples.now.checked; same = c.requires }) sums.result.micros (ap (λ (x : Sums). x.micros) sums.ensures))) (mean_fits ts fs (record { recorded = c.args.samples.now.checked; same = c.requires }))

pub returns : goal.returns
returns c =
    let ts = c.args.samples.now.instants.now in
    let fs = c.args.samples.now.frequencies.now in
    let o : OfSecond ts fs = record { recorded = c.args.samples.now.checked; same = c.requires } in
    let sums = c.run_sums-sums in
    let e = ap (λ (x : Sums). x.micros) sums.ensures in
    let near = c.nearest.result in
    let mean = base ts fs o +ℤ share ts fs o *ℤ pos microsecond in
    ap (λ (z : ℤ). as_mean (record { instant = z; frequency = sums.result.hertz ⊘ near })) (ap back (instant_is ts fs o sums.result.micros e) ∙ to_z-of_z w64 mean (mean_fits ts fs o))
    ∙ ap (λ (x : Sums). as_mean (record { instant = mean; frequency = x.hertz ⊘ near })) sums.ensures
    ∙ ap (λ (x : Float). as_mean (record { instant = mean; frequency = sum_from nought (frequencies (recording ts fs)) ⊘ x })) (c.nearest.ensures ∙ ap nearest_of (count_is ts fs o sums.result.micros e))
    ∙ mean_is ts fs o
