-- Checks 1 to 7 of document 01, and 16 of document 02: each says when it fails. Where its words have a number, "…" stands for it: Limits has them all.
use Rattle.std.specs.Prelude.{◌*◌, Bool, true, false, not, ◌&&◌, ◌||◌, List, [], ◌∷◌, ltb, eqb, ℤ, nat_abs, length, Float}
use Rattle.std.specs.List.{list_any}
use Rattle.std.specs.Int.Signed.{lt_z}
use Rattle.std.specs.Float.{nan, inf, fin}
use Rattle.std.specs.Float.Ieee.{lt, le}
use Rattle.float.specs.Signs.{magnitude_of}
use Rattle.units.specs.declared.Observer.{Observer}
use Rattle.units.specs.declared.Seconds.{Seconds}
use Rattle.checks.specs.Limits.{least_coordinates, most_coordinates, axes, most_samples, farthest_instant, largest_component, least_component}
use Rattle.common.specs.Numbers.{nought}

-- whether one of a list is such: the library's test
abbrev pub any : {A : Type 0} → (A → Bool) → List A → Bool
any p xs = list_any p xs

-- 1. "Fewer than … or more than … coordinates, or a position slice that is not three times as long as the instants"
abbrev pub miscounted : List ℤ → List Float → Bool
miscounted instants positions =
    ltb (length instants) least_coordinates
    || ltb most_coordinates (length instants)
    || not (eqb (length positions) (axes * length instants))

-- 2. "No sample, more than … or two sample slices of unequal length"
abbrev pub unsampled : List ℤ → List Float → Bool
unsampled instants frequencies = eqb (length instants) 0 || ltb most_samples (length instants) || not (eqb (length frequencies) (length instants))

-- 3. "A result area (instants or frequencies) shorter than the number of samples"
abbrev pub too_short : List ℤ → List ℤ → List Float → Bool
too_short samples instant_area frequency_area = ltb (length instant_area) (length samples) || ltb (length frequency_area) (length samples)

-- 4. "An instant whose magnitude is over …"
abbrev pub beyond : ℤ → Bool
beyond t = ltb farthest_instant (nat_abs t)

-- 5. "Coordinate instants that do not strictly rise"
unfoldable pub unrising : List ℤ → Bool
unrising [] = false
unrising (a ∷ []) = false
unrising (a ∷ b ∷ r) = not (lt_z a b) || unrising (b ∷ r)

-- 6. "a component not finite or over … in magnitude": an infinity or a NaN is not at most that
abbrev pub unreachable : Float → Bool
unreachable c = not (le (magnitude_of c) largest_component)

-- 6. "or with all three magnitudes under … (kilometres, or a blank entry)"
abbrev pub inside : Float → Bool
inside c = lt (magnitude_of c) least_component

-- 6. of one place: a component is unreachable, or all three are inside
abbrev pub misplaced : Float → Float → Float → Bool
misplaced x y z = (unreachable x || unreachable y || unreachable z) || (inside x && inside y && inside z)

-- 6. of the observer
abbrev pub observer_misplaced : Observer → Bool
observer_misplaced o = misplaced o.x.0 o.y.0 o.z.0

-- 6. over a slice of positions, three doubles each; a slice of another length is refused by 1
unfoldable pub any_misplaced : List Float → Bool
any_misplaced [] = false
any_misplaced (x ∷ []) = false
any_misplaced (x ∷ y ∷ []) = false
any_misplaced (x ∷ y ∷ z ∷ r) = misplaced x y z || any_misplaced r

-- 7. "A sample frequency not finite"
unfoldable pub not_finite : Float → Bool
not_finite nan = true
not_finite (inf s) = true
not_finite (fin s m e) = false

-- 7. "or a centre frequency not finite or not above zero"
abbrev pub no_centre : Float → Bool
no_centre f0 = not_finite f0 || not (lt nought f0)

-- 16. "a tolerance not finite or below zero": −0.0 is not below it
abbrev pub no_tolerance : Seconds → Bool
no_tolerance tolerance = not_finite tolerance.0 || lt tolerance.0 nought
