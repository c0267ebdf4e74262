-- Request 2.6: where an instant lies in respect of a table, by its first and last coordinate alone. Instants are nanoseconds.
use Rattle.std.specs.Prelude.{◌-◌, Bool, true, false, cond, List, ℤ, pos, length, get_or}
use Rattle.std.specs.Int.Signed.{lt_z}
use Rattle.orbit.specs.declared.place.Place.{Place}
use Rattle.orbit.specs.declared.place.Place.TheVariants.{Before, Within, After}
use Rattle.orbit.specs.declared.place.Located.{Located}

-- the instant of a table's first coordinate
abbrev pub first_instant : List ℤ → ℤ
first_instant instants = get_or instants 0 (pos 0)

-- that of its last
abbrev pub last_instant : List ℤ → ℤ
last_instant instants = get_or instants (length instants - 1) (pos 0)

-- "whether the instant lies before the first coordinate, from the first to the last, or after the last"
abbrev pub place_of : List ℤ → ℤ → Place
place_of instants t = cond (lt_z t (first_instant instants)) Before (cond (lt_z (last_instant instants) t) After Within)

-- "lies outside": before the first or after the last
abbrev pub is_outside : Place → Bool
is_outside Before = true
is_outside Within = false
is_outside After = true

-- an answer about an instant with that instant's place
abbrev pub located : {A : Type 0} → List ℤ → ℤ → A → Located A
located instants t a = record { answer = a; place = place_of instants t }

-- what is made of a located answer, as its unit's number; its place stays
abbrev pub with_answer : {A B : Type 0} → (A → B) → Located A → Located B
with_answer f x = record { answer = f x.answer; place = x.place }
