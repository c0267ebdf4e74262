-- A recording by its places: sample k has the instant and the frequency at k of the two slices, and a part of it is the recording of the slices' parts. Assumes nothing.
use mathlib.Core.Path.{◌≡◌, refl, ap}
use mathlib.Core.List.{List, [], ◌∷◌}
use Prim.Native.Nat.{ℕ, zero, suc, ◌<◌}
use native.Mathlib.Omega.{arith}
use lib.IntN.{ℤ, pos}
use lib.ListN.{length, get_or, take, drop}
use lib.Ieee.{Float, nan}
use Rattle.common.specs.Numbers.{nought}
use Rattle.samples.specs.Means.{Sample, recording, instants, frequencies}

-- what `get_or` gives past the end
abbrev pub no_sample : Sample
no_sample = record { instant = pos 0; frequency = nought }

-- as many samples as instants
pub record_length : (ts : List ℤ) (fs : List Float) → length fs ≡ length ts → length (recording ts fs) ≡ length ts
unfolding recording
record_length [] fs e = refl
record_length (t ∷ ts) [] e = e
record_length (t ∷ ts) (f ∷ fs) e = ap suc (record_length ts fs (omega (arith, e)))

-- sample k
pub record_at : (ts : List ℤ) (fs : List Float) → length fs ≡ length ts → (k : ℕ) → k < length ts → (d : Sample) → get_or (recording ts fs) k d ≡ record { instant = get_or ts k (pos 0); frequency = get_or fs k nan }
unfolding recording
record_at [] fs e k h d = absurd (omega arith)
record_at (t ∷ ts) [] e k h d = absurd (omega (arith, e))
record_at (t ∷ ts) (f ∷ fs) e zero h d = refl
record_at (t ∷ ts) (f ∷ fs) e (suc k) h d = record_at ts fs (omega (arith, e)) k (omega (arith, h)) d

-- its instants are the slice of instants
pub record_instants : (ts : List ℤ) (fs : List Float) → length fs ≡ length ts → instants (recording ts fs) ≡ ts
unfolding recording
record_instants [] fs e = refl
record_instants (t ∷ ts) [] e = absurd (omega (arith, e))
record_instants (t ∷ ts) (f ∷ fs) e = ap {B = List ℤ} (λ (l : List ℤ). t ∷ l) (record_instants ts fs (omega (arith, e)))

-- and its frequencies that of frequencies
pub record_frequencies : (ts : List ℤ) (fs : List Float) → length fs ≡ length ts → frequencies (recording ts fs) ≡ fs
unfolding recording
record_frequencies [] [] e = refl
record_frequencies [] (f ∷ fs) e = absurd (omega (arith, e))
record_frequencies (t ∷ ts) [] e = refl
record_frequencies (t ∷ ts) (f ∷ fs) e = ap {B = List Float} (λ (l : List Float). f ∷ l) (record_frequencies ts fs (omega (arith, e)))

-- the first n samples, and the rest
pub record_take : (n : ℕ) (ts : List ℤ) (fs : List Float) → recording (take n ts) (take n fs) ≡ take n (recording ts fs)
unfolding recording
record_take zero ts fs = refl
record_take (suc n) [] fs = refl
record_take (suc n) (t ∷ ts) [] = refl
record_take (suc n) (t ∷ ts) (f ∷ fs) = ap {B = List Sample} (λ (l : List Sample). record { instant = t; frequency = f } ∷ l) (record_take n ts fs)

no_record : (ts : List ℤ) → recording ts [] ≡ []
unfolding recording
no_record [] = refl
no_record (t ∷ ts) = refl

pub record_drop : (n : ℕ) (ts : List ℤ) (fs : List Float) → recording (drop n ts) (drop n fs) ≡ drop n (recording ts fs)
unfolding recording
record_drop zero ts fs = refl
record_drop (suc n) [] fs = refl
record_drop (suc n) (t ∷ ts) [] = no_record (drop n ts)
record_drop (suc n) (t ∷ ts) (f ∷ fs) = record_drop n ts fs
