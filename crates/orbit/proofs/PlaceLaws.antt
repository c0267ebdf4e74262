-- The place of an instant, held to every coordinate of a table whose instants rise strictly (check 5): before means before all of them, after means after all of them, and within means from the first to the last.
-- What is before the first is before those behind it, and what is after the last is after those ahead of it. Assumes nothing.
use mathlib.Core.Path.{◌≡◌, refl, ap}
use mathlib.Core.Logic.{◌↔◌, ◌⊎◌, inl, inr}
use mathlib.Core.Bool.{Bool, true, false, not, cond}
use mathlib.Core.List.{List}
use Prim.Native.Nat.{ℕ, zero, suc, ◌-◌, ◌<◌}
use native.Mathlib.Nat.{eq-or-lt_of_le}
use native.Mathlib.Omega.{arith}
use lib.Dec.{T}
use lib.IntN.{ℤ, pos}
use lib.Signed.{lt_z, ◌<ℤ◌, ◌≤ℤ◌, lt_z_yes, lt_z_no, ≤ℤ_refl, clash_ℤ}
use lib.ListN.{length, get_or}
use Rattle.checks.specs.Checks.{unrising}
use Rattle.samples.proofs.Seconds.{<ℤ-trans}
use Rattle.orbit.specs.declared.place.Place.{Place}
use Rattle.orbit.specs.declared.place.Place.TheVariants.{Before, Within, After}
use Rattle.orbit.specs.Place.{first_instant, last_instant, place_of}
use Rattle.orbit.proofs.Searches.{rises}

-- ---- the three cases by the two tests

abbrev chosen : Bool → Bool → Place
chosen early late = cond early Before (cond late After Within)

-- which of the three
abbrev number : Place → ℕ
number Before = 0
number Within = 1
number After = 2

apart : {p q : Place} → p ≡ q → (number p ≡ number q → ⊥) → ⊥
apart e n = n (ap number e)

is_early : (early late : Bool) → chosen early late ≡ Before → T early
is_early true late e = tt
is_early false true e = absurd (apart e (λ h. omega (arith, h)))
is_early false false e = absurd (apart e (λ h. omega (arith, h)))

early_is : (early late : Bool) → T early → chosen early late ≡ Before
early_is true late h = refl
early_is false late h = absurd h

is_late : (early late : Bool) → chosen early late ≡ After → T late
is_late true late e = absurd (apart e (λ h. omega (arith, h)))
is_late false true e = tt
is_late false false e = absurd (apart e (λ h. omega (arith, h)))

late_is : (early late : Bool) → (T early → ⊥) → T late → chosen early late ≡ After
late_is true late n h = absurd (n tt)
late_is false true n h = refl
late_is false false n h = absurd h

is_neither : (early late : Bool) → chosen early late ≡ Within → T (not early) × T (not late)
is_neither true late e = absurd (apart e (λ h. omega (arith, h)))
is_neither false true e = absurd (apart e (λ h. omega (arith, h)))
is_neither false false e = (tt, tt)

neither_is : (early late : Bool) → (T early → ⊥) → (T late → ⊥) → chosen early late ≡ Within
neither_is true late n m = absurd (n tt)
neither_is false true n m = absurd (m tt)
neither_is false false n m = refl

-- ---- the place by the table

module _ (ts : List ℤ) (t : ℤ) (some : 0 < length ts) (risen : unrising ts ≡ false) where
  abbrev early : Bool
  early = lt_z t (first_instant ts)

  abbrev late : Bool
  late = lt_z (last_instant ts) t

  behind : (k : ℕ) → k < length ts → t <ℤ first_instant ts → t <ℤ get_or ts k (pos 0)
  behind zero h l = l
  behind (suc k) h l = <ℤ-trans l (rises ts 0 (suc k) risen (omega arith) h)

  ahead : (k : ℕ) → k < length ts → last_instant ts <ℤ t → get_or ts k (pos 0) <ℤ t
  ahead k h l = go (eq-or-lt_of_le (omega arith))
    where
      go : (k ≡ length ts - 1) ⊎ (k < length ts - 1) → get_or ts k (pos 0) <ℤ t
      go (inl e) = rw e l
      go (inr u) = <ℤ-trans (rises ts k (length ts - 1) risen u (omega arith)) l

  -- before: every coordinate lies after the instant
  pub before-exactly : (place_of ts t ≡ Before) ↔ ((k : ℕ) → k < length ts → t <ℤ get_or ts k (pos 0))
  before-exactly = (λ e k h. behind k h (lt_z_yes (is_early early late e)), λ f. early_is early late (f 0 some).lt)

  -- after: every coordinate lies before the instant
  pub after-exactly : (place_of ts t ≡ After) ↔ ((k : ℕ) → k < length ts → get_or ts k (pos 0) <ℤ t)
  after-exactly = (
    λ e k h. ahead k h (lt_z_yes (is_late early late e)),
    λ f. late_is early late (λ h. clash (f 0 some) (lt_z_yes h)) (f (length ts - 1) (omega arith)).lt,
  )
    where
      clash : first_instant ts <ℤ t → t <ℤ first_instant ts → ⊥
      clash l m = clash_ℤ (<ℤ-trans l m) (≤ℤ_refl (first_instant ts))

  -- within: from the first to the last, both included
  pub within-exactly : (place_of ts t ≡ Within) ↔ ((first_instant ts ≤ℤ t) × (t ≤ℤ last_instant ts))
  within-exactly = (
    λ e. let n = is_neither early late e in (lt_z_no n.0, lt_z_no n.1),
    λ b. neither_is early late (λ h. clash_ℤ (lt_z_yes h) b.0) (λ h. clash_ℤ (lt_z_yes h) b.1),
  )
