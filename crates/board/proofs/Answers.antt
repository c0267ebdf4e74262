-- What is summed stays a number: the clock offsets are finite, so that a sum on the way may be infinite, but what is added next is never an infinity of the other sign. Of some entries one
-- survives at least, and they are no more than the entries. So the mean is a number too. Assumes nothing.
use Prim.Native.Nat.{ℕ, ◌≤◌, ◌<◌}
use mathlib.Core.Path.{◌≡◌, refl, sym, ap, subst, ◌∙◌}
use mathlib.Core.Bool.{Bool, true, false, not, cond, ◌||◌}
use mathlib.Core.List.{List, [], ◌∷◌, Memᴰ}
use native.Mathlib.Omega.{arith}
use borrow.Author.Tests.{eq-eqb}
use lib.Dec.{T, eqb}
use lib.ListN.{length}
use lib.Ieee.{Float}
use lib.Ieee.Bits.{is_false}
use lib.Ieee.Scale.{finite}
use Rattle.common.specs.Rounded.{◌⊕◌}
use Rattle.common.specs.Sums.{sum_from}
use Rattle.common.specs.Lists.{those}
use Rattle.common.proofs.Sums.{sum_none, sum_more}
use Rattle.common.proofs.Those.{those_are, those-fewer}
use Rattle.float.proofs.Comparison.{number}
use Rattle.float.proofs.Numbers.{add_number}
use Rattle.checks.specs.Checks.{any, not_finite}
use Rattle.checks.proofs.Anys.{any-one}
use Rattle.checks.proofs.Finite.{is_finite}
use Rattle.checks.proofs.First.{neither}
use Rattle.board.specs.declared.entries.Entry.{Entry}
use Rattle.board.specs.declared.superseding.Placed.{Placed}
use Rattle.board.specs.Superseding.{placed, survives, survivors}
use Rattle.board.specs.Board.{entry_not_finite, clock_offset, clock_offsets}
use Rattle.board.specs.Rules.{of_satellite, present}
use Rattle.board.proofs.Places.{length-placed}
use Rattle.board.proofs.Survivors.{finite_at}

-- a sum of finite clock offsets, from a number on
pub sum_number : (s : Float) (ps : List Placed) → T (number s) → ((p : Placed) → Memᴰ p ps → T (finite (clock_offset p))) → T (number (sum_from s (clock_offsets ps)))
sum_number s [] h f = subst (λ (x : Float). T (number x)) (sym (sum_none s)) h
sum_number s (p ∷ ps) h f =
    subst (λ (x : Float). T (number x)) (sym (sum_more s (clock_offset p) (clock_offsets ps)))
    (sum_number (s ⊕ clock_offset p) ps (add_number s (clock_offset p) h (f p (Memᴰ.head refl))) (λ q m. f q (Memᴰ.tail m)))

-- the clock offset of each survivor is finite
pub offset_finite : (es : List Entry) → T (not (any entry_not_finite es)) → (p : Placed) → Memᴰ p (survivors es) → T (finite (clock_offset p))
offset_finite es f p m = is_finite (clock_offset p) (subst (λ (b : Bool). T (not b)) (sym both.0) tt)
  where
    a : Bool
    a = not_finite p.entry.clock_offset.0

    b : Bool
    b = not_finite p.entry.frequency_offset.0

    both : (a ≡ false) × (b ≡ false)
    both =
        let here : T (not (entry_not_finite p.entry)) = finite_at es f p (those_are (survives (placed es)) p (placed es) m).0 in
        neither a b (neither (a || b) (not_finite p.entry.rmse.0) (is_false (entry_not_finite p.entry) here)).0

-- the satellite of the first entry is present, so where each that is has one survivor, one survives
pub some_survive : (e : Entry) (es : List Entry) → length (those (of_satellite e.satellite) (survivors (e ∷ es))) ≡ cond (present e.satellite (e ∷ es)) 1 0
    → 0 < length (survivors (e ∷ es))
some_survive e es h = omega (arith, h ∙ ap (λ (b : Bool). cond {A = ℕ} b 1 0) here, those-fewer (of_satellite e.satellite) (survivors (e ∷ es)))
  where
    here : present e.satellite (e ∷ es) ≡ true
    here = any-one (λ d. eqb d.satellite e.satellite) e es ∙ rw (eq-eqb e.satellite e.satellite refl)

-- and no more than there are
pub no_more : (es : List Entry) → length (survivors es) ≤ length es
no_more es = omega (arith, those-fewer (survives (placed es)) (placed es), length-placed 0 es)
