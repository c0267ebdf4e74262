-- An area whose first c places hold the first c values, and whose rest is as it was; one value more at place c. Assumes nothing.
use mathlib.Core.Path.{◌≡◌, sym, ap, ◌∙◌}
use mathlib.Core.List.{List, [], ◌∷◌, ◌++◌}
use Prim.Native.Nat.{ℕ, suc, ◌+◌, ◌≤◌, ◌<◌}
use native.Mathlib.Numerals.{add-one}
use native.Mathlib.Omega.{arith}
use lib.ListN.{length, get_or, take, drop, set, length-append, length-drop}
use lib.Seq.{take-suc, drop-cons, set_at, append_snoc, length-take-le, take_all}
use Rattle.common.specs.Outcome.{written}

-- the first c of the values at the front of the area
abbrev pub filled : {A : Type 0} → List A → List A → ℕ → List A
filled values old c = take c values ++ drop c old

pub filled_more : {A : Type 0} (values old : List A) (c : ℕ) (v d : A) → c < length values → c < length old → get_or values c d ≡ v → set (filled values old c) c v ≡ filled values old (c + 1)
filled_more values old c v d h k e =
    ap (λ l. set (take c values ++ l) c v) (drop-cons old c d k)
    ∙ set_at (take c values) (get_or old c d) (drop (suc c) old) v c (length-take-le c values (omega arith))
    ∙ sym (append_snoc (take c values) v (drop (suc c) old))
    ∙ ap (λ l. l ++ drop (suc c) old) (ap (λ w. take c values ++ (w ∷ [])) (sym e) ∙ sym (take-suc values c d h))
    ∙ ap (λ n. take n values ++ drop n old) (sym (add-one c))

pub filled_all : {A : Type 0} (values old : List A) (c : ℕ) → c ≡ length values → filled values old c ≡ written values old
filled_all values old c e = ap (λ n. take n values ++ drop n old) e ∙ ap (λ l. l ++ drop (length values) old) (take_all (length values) values (omega arith))

pub length_filled : {A : Type 0} (values old : List A) (c : ℕ) → c ≤ length values → c ≤ length old → length (filled values old c) ≡ length old
length_filled values old c h k = omega (arith, length-append (take c values) (drop c old), length-take-le c values h, length-drop c old)
