-- Tests as facts: one that is true passes, one that is false does not, and two that pass together are the same. Assumes nothing.
use mathlib.Core.Path.{◌≡◌, refl, sym, subst}
use mathlib.Core.Bool.{Bool, true, false, not}
use lib.Dec.{T}

pub holds : {v : Bool} → v ≡ true → T v
holds e = subst T (sym e) tt

pub fails : {v : Bool} → v ≡ false → T (not v)
fails e = subst (λ (v : Bool). T (not v)) (sym e) tt

-- each passes where the other does
pub same_test : (v w : Bool) → (T v → T w) → (T w → T v) → v ≡ w
same_test true true f g = refl
same_test true false f g = absurd (f tt)
same_test false true f g = absurd (g tt)
same_test false false f g = refl
