-- What holds of an entry's inputs where none of its checks fails: each check is read off as false, and says of every element what it says of the list.
-- And the other way: samples that are few, near and of one length pass their checks. Assumes nothing.
use mathlib.Core.Path.{◌≡◌, refl}
use mathlib.Core.Bool.{false, not, ◌||◌}
use mathlib.Core.List.{List, [], ◌∷◌}
use Prim.Native.Nat.{ℕ, zero, suc, ◌*◌, ◌≤◌, ◌<◌}
use native.Mathlib.Omega.{arith}
use borrow.Author.Tests.{ltb-false, eqb-true, eqb-false, not-false, le-ltb, ne_eqb, eq-eqb}
use lib.Dec.{ltb, eqb}
use lib.IntN.{ℤ, pos, nat_abs}
use lib.Ieee.{Float}
use Rattle.units.specs.declared.Seconds.{Seconds}
use Rattle.units.specs.declared.Observer.{Observer}
use Rattle.units.specs.declared.Settings.{Settings}
use lib.ListN.{length, get_or}
use Rattle.checks.specs.Limits.{least_coordinates, most_coordinates, axes, most_samples, farthest_instant}
use Rattle.checks.specs.Checks.{any, miscounted, unsampled, too_short, beyond, unrising, no_tolerance}
use Rattle.checks.specs.Entries.{first_failing, propagation_checks, closest_checks, means_checks, samples_checks, fit_checks, pass_checks}
use Rattle.checks.specs.Checked.{Table, Samples}
use Rattle.checks.proofs.First.{numbered, passes, without, never, neither}

-- check 4, of one instant and of each of a list
near-one : (t : ℤ) → beyond t ≡ false → nat_abs t ≤ farthest_instant
near-one t h = ltb-false farthest_instant (nat_abs t) h

near_each : (l : List ℤ) → any beyond l ≡ false → (k : ℕ) → nat_abs (get_or l k (pos 0)) ≤ farthest_instant
near_each [] h k = omega arith
near_each (t ∷ l) h zero = near-one t (neither (beyond t) (any beyond l) h).0
near_each (t ∷ l) h (suc k) = near_each l (neither (beyond t) (any beyond l) h).1 k

pub none_beyond : (l : List ℤ) → ((k : ℕ) → k < length l → nat_abs (get_or l k (pos 0)) ≤ farthest_instant) → any beyond l ≡ false
none_beyond [] h = refl
none_beyond (t ∷ l) h = rw (le-ltb farthest_instant (nat_abs t) (h 0 (omega arith))) (none_beyond l (λ k s. h (suc k) (omega arith)))

-- checks 1, 4, 5
table : (ts : List ℤ) (ps : List Float) → miscounted ts ps ≡ false → any beyond ts ≡ false → unrising ts ≡ false → Table ts ps
table ts ps h1 h4 h5 =
    let n = length ts in
    let both = neither (ltb n least_coordinates || ltb most_coordinates n) (not (eqb (length ps) (axes * n))) h1 in
    let ends = neither (ltb n least_coordinates) (ltb most_coordinates n) both.0 in
    record {
      enough = ltb-false n least_coordinates ends.0;
      few = ltb-false most_coordinates n ends.1;
      three = eqb-true (length ps) (axes * n) (not-false (eqb (length ps) (axes * n)) both.1);
      near = near_each ts h4;
      risen = h5;
    }

-- checks 2, 4
samples : (ss : List ℤ) (fs : List Float) → unsampled ss fs ≡ false → any beyond ss ≡ false → Samples ss fs
samples ss fs h2 h4 =
    let n = length ss in
    let both = neither (eqb n 0 || ltb most_samples n) (not (eqb (length fs) n)) h2 in
    let ends = neither (eqb n 0) (ltb most_samples n) both.0 in
    let some = eqb-false n 0 ends.0 in
    record {
      some = omega (arith, some);
      few = ltb-false most_samples n ends.1;
      same = eqb-true (length fs) n (not-false (eqb (length fs) n) both.1);
      near = near_each ss h4;
    }

-- check 3
areas : (ss ia : List ℤ) (fa : List Float) → too_short ss ia fa ≡ false → (length ss ≤ length ia) × (length ss ≤ length fa)
areas ss ia fa h =
    let both = neither (ltb (length ia) (length ss)) (ltb (length fa) (length ss)) h in
    (ltb-false (length ia) (length ss) both.0, ltb-false (length fa) (length ss) both.1)

-- the entries: each check by its place in the entry's list

module _ (ts : List ℤ) (ps : List Float) (t : ℤ) (tolerance : Seconds) (h : first_failing (propagation_checks ts ps t tolerance) ≡ 0) where
  pub propagation_table : Table ts ps
  unfolding numbered
  propagation_table = table ts ps (passes (propagation_checks ts ps t tolerance) 0 tt h) (passes (propagation_checks ts ps t tolerance) 1 tt h) (passes (propagation_checks ts ps t tolerance) 3 tt h)

module _ (ts : List ℤ) (ps : List Float) (o : Observer) (t : ℤ) (tolerance : Seconds) (h : first_failing (closest_checks ts ps o t tolerance) ≡ 0) where
  pub closest_table : Table ts ps
  unfolding numbered
  closest_table = table ts ps (passes (closest_checks ts ps o t tolerance) 0 tt h) (passes (closest_checks ts ps o t tolerance) 1 tt h) (passes (closest_checks ts ps o t tolerance) 3 tt h)

  pub closest_near : nat_abs t ≤ farthest_instant
  unfolding numbered
  closest_near = near-one t (passes (closest_checks ts ps o t tolerance) 2 tt h)

pub samples-samples : (ss : List ℤ) (fs : List Float) → first_failing (samples_checks ss fs) ≡ 0 → Samples ss fs
unfolding numbered
samples-samples ss fs h = samples ss fs (passes (samples_checks ss fs) 0 tt h) (passes (samples_checks ss fs) 1 tt h)

module _ (ss : List ℤ) (fs : List Float) (ia : List ℤ) (fa : List Float) (h : first_failing (means_checks ss fs ia fa) ≡ 0) where
  pub means-samples : Samples ss fs
  unfolding numbered
  means-samples = samples ss fs (passes (means_checks ss fs ia fa) 0 tt h) (passes (means_checks ss fs ia fa) 2 tt h)

  pub means_areas : (length ss ≤ length ia) × (length ss ≤ length fa)
  unfolding numbered
  means_areas = areas ss ia fa (passes (means_checks ss fs ia fa) 1 tt h)

module _ (ts : List ℤ) (ps : List Float) (ss : List ℤ) (fs : List Float) (s : Settings) (t : ℤ) (h : first_failing (fit_checks ts ps ss fs s t) ≡ 0) where
  pub fit_table : Table ts ps
  unfolding numbered
  fit_table = table ts ps (passes (fit_checks ts ps ss fs s t) 0 tt h) (passes (fit_checks ts ps ss fs s t) 2 tt h) (passes (fit_checks ts ps ss fs s t) 5 tt h)

  pub fit_samples : Samples ss fs
  unfolding numbered
  fit_samples = samples ss fs (passes (fit_checks ts ps ss fs s t) 1 tt h) (passes (fit_checks ts ps ss fs s t) 3 tt h)

  pub fit_near : nat_abs t ≤ farthest_instant
  unfolding numbered
  fit_near = near-one t (passes (fit_checks ts ps ss fs s t) 4 tt h)

module _ (ts : List ℤ) (ps : List Float) (ss : List ℤ) (fs : List Float) (s : Settings) (ia : List ℤ) (fa : List Float) (h : first_failing (pass_checks ts ps ss fs s ia fa) ≡ 0) where
  pub pass-table : Table ts ps
  unfolding numbered
  pass-table = table ts ps (passes (pass_checks ts ps ss fs s ia fa) 0 tt h) (passes (pass_checks ts ps ss fs s ia fa) 3 tt h) (passes (pass_checks ts ps ss fs s ia fa) 5 tt h)

  pub pass-samples : Samples ss fs
  unfolding numbered
  pass-samples = samples ss fs (passes (pass_checks ts ps ss fs s ia fa) 1 tt h) (passes (pass_checks ts ps ss fs s ia fa) 4 tt h)

  pub pass_areas : (length ss ≤ length ia) × (length ss ≤ length fa)
  unfolding numbered
  pass_areas = areas ss ia fa (passes (pass_checks ts ps ss fs s ia fa) 2 tt h)

  pub pass_tolerance : no_tolerance s.tolerance ≡ false
  unfolding numbered
  pass_tolerance = passes (pass_checks ts ps ss fs s ia fa) 10 tt h

-- check 10 is none of the pass's
pub pass_never_ten : (ts : List ℤ) (ps : List Float) (ss : List ℤ) (fs : List Float) (s : Settings) (ia : List ℤ) (fa : List Float) → first_failing (pass_checks ts ps ss fs s ia fa) ≡ 10 → ⊥
unfolding without
pass_never_ten ts ps ss fs s ia fa = never 9 (pass_checks ts ps ss fs s ia fa) tt

-- the other way

module _ (ss : List ℤ) (fs : List Float) (s : Samples ss fs) where
  sampled : unsampled ss fs ≡ false
  sampled =
      rw (
        ne_eqb (length ss) 0 (λ e. omega arith),
        le-ltb most_samples (length ss) s.few,
        eq-eqb (length fs) (length ss) s.same,
      )

  pub samples-pass : first_failing (samples_checks ss fs) ≡ 0
  unfolding first_failing
  samples-pass = rw (sampled, none_beyond ss (λ k b. s.near k))

  pub means-pass : (ia : List ℤ) (fa : List Float) → length ss ≤ length ia → length ss ≤ length fa → first_failing (means_checks ss fs ia fa) ≡ 0
  unfolding first_failing
  means-pass ia fa h k =
      rw (
        sampled,
        le-ltb (length ia) (length ss) h,
        le-ltb (length fa) (length ss) k,
        none_beyond ss (λ k b. s.near k),
      )
