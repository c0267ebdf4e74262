-- The copy is the recording, and sorted it is alike to it, so that it is a recording with the same means. Assumes nothing.
use mathlib.Core.Path.{◌≡◌, ap, ap₂, ◌∙◌}
use mathlib.Core.List.{List, ◌++◌}
use Prim.Native.Nat.{ℕ}
use native.Mathlib.Omega.{arith}
use lib.IntN.{ℤ}
use lib.Ieee.{Float}
use lib.ListN.{length, take}
use Rattle.std.proofs.lemmas.List.{take_at}
use Rattle.common.specs.Outcome.{written}
use Rattle.samples.specs.Means.{Sample, bin, means, instants, frequencies, recording}
use Rattle.samples.specs.Sorting.{SameBins}
use Rattle.samples.proofs.Seconds.{same-means}
use Rattle.samples.proofs.means.write_shuffled.Goals as goal

-- the front of an array is what was copied there
copied : {A : Type 0} (l copy rest : List A) (n : ℕ) → length l ≡ n → copy ≡ l → take n (copy ++ rest) ≡ l
copied l copy rest n h e = take_at copy rest n (ap length e ∙ h) ∙ e

alike : (ts us : List ℤ) (fs gs : List Float) (ts' : List ℤ) (fs' : List Float) → us ≡ ts → gs ≡ fs → SameBins us gs ts' fs' → SameBins ts fs ts' fs'
alike ts us fs gs ts' fs' e q a s = a s ∙ ap₂ (λ (x : List ℤ) (y : List Float). bin s (recording x y)) e q

pub invariant_of-sorted : goal.invariant_of-sorted
invariant_of-sorted g c =
    let s = c.args.samples.now in
    let new = c.sort_by_seconds.new.self in
    let long : length new.instants.now ≡ length s.instants.now = c.sort_by_seconds.ensures.rearranged.length_stays ∙ ap length (copied s.instants.now c.copy_from_slice.new.self _ (length s.instants.now) (cc) c.copy_from_slice.ensures.after) in
    let some = s.checked.some in
    let few = s.checked.few in
    record { checked = record { some = omega arith; few = omega arith; same = new.frequencies_long; near = new.limited } }

-- the sorted copy has the recording's means
same : (ts copy rest : List ℤ) (fs copied-fs rest-fs : List Float) (ts' : List ℤ) (fs' : List Float) (n : ℕ) → length ts ≡ n → length fs ≡ n → copy ≡ ts → copied-fs ≡ fs → SameBins (take n (copy ++ rest)) (take n (copied-fs ++ rest-fs)) ts' fs' → means (recording ts' fs') ≡ means (recording ts fs)
same ts copy rest fs copied-fs rest-fs ts' fs' n h k e q a =
    same-means (recording ts' fs') (recording ts fs) (alike ts (take n (copy ++ rest)) fs (take n (copied-fs ++ rest-fs)) ts' fs' (copied ts copy rest n h e) (copied fs copied-fs rest-fs n k q) a)

pub returns : goal.returns
returns g c =
    let s = c.args.samples.now in
    let new = c.sort_by_seconds.new.self in
    let old = c.args.areas.now in
    let e = same s.instants.now c.copy_from_slice.new.self _ s.frequencies.now c.copy_from_slice-2.new.self _ new.instants.now new.frequencies.now (length s.instants.now) (cc) s.checked.same c.copy_from_slice.ensures.after c.copy_from_slice-2.ensures.after c.sort_by_seconds.ensures.rearranged.same_bins in
    let w = c.write_runs.ensures in
    record {
      many = w.many ∙ ap length e;
      areas = record {
        instants = w.areas.instants ∙ ap (λ (S : List Sample). written (instants S) old.instants.now) e;
        numbers = w.areas.numbers ∙ ap (λ (S : List Sample). written (frequencies S) old.numbers.now) e;
        same = w.areas.same;
      };
    }
