-- Tests that are joined by `&&`, as the code makes them one after the other. Assumes nothing.
use mathlib.Core.Path.{◌≡◌, refl}
use mathlib.Core.Bool.{Bool, true, false, ◌&&◌, false≢true}

-- what joined tests that hold say of each
pub both : (a b : Bool) → a && b ≡ true → (a ≡ true) × (b ≡ true)
both true b h = (refl, h)
both false b h = absurd (false≢true h)

pub all_four : (a b c d : Bool) → a && b && c && d ≡ true → (a ≡ true) × (b ≡ true) × (c ≡ true) × (d ≡ true)
all_four true true c d h = let t = both c d h in (refl, refl, t.0, t.1)
all_four true false c d h = absurd (false≢true h)
all_four false b c d h = absurd (false≢true h)

pub all_six : (a b c d e f : Bool) → a && b && c && d && e && f ≡ true → (a ≡ true) × (b ≡ true) × (c ≡ true) × (d ≡ true) × (e ≡ true) × (f ≡ true)
all_six true true c d e f h = let t = all_four c d e f h in (refl, refl, t.0, t.1, t.2, t.3)
all_six true false c d e f h = absurd (false≢true h)
all_six false b c d e f h = absurd (false≢true h)
