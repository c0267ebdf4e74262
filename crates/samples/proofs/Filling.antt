-- The two areas while the means are written: the first c means stand at the front, and each next one goes to place c. Assumes nothing.
use mathlib.Core.Path.{◌≡◌, sym, ap, ◌∙◌}
use mathlib.Core.List.{List}
use Prim.Native.Nat.{ℕ, ◌+◌, ◌≤◌, ◌<◌}
use native.Mathlib.Omega.{arith}
use lib.IntN.{ℤ, pos}
use lib.ListN.{length, get_or, set, length-map}
use lib.Ieee.{Float, nan}
use Rattle.common.specs.Outcome.{written}
use Rattle.samples.specs.Means.{Sample, bin, seconds, recording, mean_of, means}
use Rattle.checks.specs.Checked.{Samples}
use Rattle.samples.specs.Sums.{instants_of_means, frequencies_of_means}
use Rattle.samples.proofs.Seconds.{count-means, few-means}
use Rattle.samples.proofs.Recordings.{record_length}
use Rattle.samples.proofs.Places.{instant_at, frequency_at}
use Rattle.samples.proofs.Areas.{filled, filled_more, filled_all, length_filled}

module _ (ts : List ℤ) (fs : List Float) (r : Samples ts fs) (is : List ℤ) (hs : List Float) (li : length ts ≤ length is) (lh : length ts ≤ length hs) where
  -- after c means
  abbrev pub Filling : List ℤ → List Float → ℕ → Type 0
  Filling is' hs' c = (is' ≡ filled (instants_of_means ts fs) is c) × (hs' ≡ filled (frequencies_of_means ts fs) hs c)

  pub many : (length (instants_of_means ts fs) ≡ length (seconds (recording ts fs))) × (length (frequencies_of_means ts fs) ≡ length (seconds (recording ts fs))) × (length (seconds (recording ts fs)) ≤ length ts)
  many =
      let S = recording ts fs in
      let n = count-means S in (
        length-map (means S) (λ (x : Sample). x.instant) ∙ n,
        length-map (means S) (λ (x : Sample). x.frequency) ∙ n,
        omega (arith, few-means S, record_length ts fs r.same),
      )

  -- there is a place for each mean
  pub places : (is' : List ℤ) (hs' : List Float) (c : ℕ) → Filling is' hs' c → c ≤ length (seconds (recording ts fs)) → (length is' ≡ length is) × (length hs' ≡ length hs)
  places is' hs' c f h = (
    ap length f.0 ∙ length_filled (instants_of_means ts fs) is c (omega (arith, many.0)) (omega (arith, many.2)),
    ap length f.1 ∙ length_filled (frequencies_of_means ts fs) hs c (omega (arith, many.1)) (omega (arith, many.2)),
  )

  -- one mean more, that of the second at place c
  pub filling_more : (is' : List ℤ) (hs' : List Float) (c : ℕ) (s : ℤ) → Filling is' hs' c → c < length (seconds (recording ts fs)) → get_or (seconds (recording ts fs)) c (pos 0) ≡ s → Filling (set is' c (mean_of (bin s (recording ts fs))).instant) (set hs' c (mean_of (bin s (recording ts fs))).frequency) (c + 1)
  filling_more is' hs' c s f h e =
      let S = recording ts fs in (
        ap (λ (l : List ℤ). set l c (mean_of (bin s S)).instant) f.0 ∙ filled_more (instants_of_means ts fs) is c (mean_of (bin s S)).instant (pos 0) (omega (arith, many.0)) (omega (arith, many.2)) (instant_at S c h ∙ ap (λ (z : ℤ). (mean_of (bin z S)).instant) e),
        ap (λ (l : List Float). set l c (mean_of (bin s S)).frequency) f.1 ∙ filled_more (frequencies_of_means ts fs) hs c (mean_of (bin s S)).frequency nan (omega (arith, many.1)) (omega (arith, many.2)) (frequency_at S c h ∙ ap (λ (z : ℤ). (mean_of (bin z S)).frequency) e),
      )

  -- all of them
  pub filling_all : (is' : List ℤ) (hs' : List Float) (c : ℕ) → Filling is' hs' c → c ≡ length (seconds (recording ts fs)) → (c ≡ length (means (recording ts fs))) × ((is' ≡ written (instants_of_means ts fs) is) × (hs' ≡ written (frequencies_of_means ts fs) hs))
  filling_all is' hs' c f e = (
    e ∙ sym (count-means (recording ts fs)),
    (f.0 ∙ filled_all (instants_of_means ts fs) is c (e ∙ sym many.0), f.1 ∙ filled_all (frequencies_of_means ts fs) hs c (e ∙ sym many.1)),
  )
