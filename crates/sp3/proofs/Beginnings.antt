-- The header's lines in turn, each held against its own beginning. Assumes nothing.
use mathlib.Core.Path.{◌≡◌, ap, ◌∙◌}
use mathlib.Core.Bool.{Bool, true, false, ◌&&◌}
use mathlib.Core.List.{List, [], ◌∷◌}
use Prim.Native.Nat.{ℕ, ◌+◌, ◌<◌, ◌≤◌}
use lib.ListN.{length, get_or, drop, drop_of_length-le}
use Rattle.common.proofs.Dropped.{dropped}
use Rattle.sp3.specs.Lines.{begins}
use Rattle.sp3.specs.Header.{headed}

module _ (ps : List (List ℕ)) (k : ℕ) where
  pub head_none : (ls : List (List ℕ)) → k < length ps → ls ≡ [] → headed (drop k ps) ls ≡ false
  unfolding headed
  head_none ls h e = ap (λ (qs : List (List ℕ)). headed qs ls) (dropped ps k [] h) ∙ ap (headed (get_or ps k [] ∷ drop (k + 1) ps)) e

  pub head_line : (l : List ℕ) (ls ms : List (List ℕ)) (y : Bool) → k < length ps → ls ≡ l ∷ ms → begins (get_or ps k []) l ≡ y
      → headed (drop k ps) ls ≡ y && headed (drop (k + 1) ps) ms
  unfolding headed
  head_line l ls ms y h e f =
      ap (λ (qs : List (List ℕ)). headed qs ls) (dropped ps k [] h)
      ∙ ap (headed (get_or ps k [] ∷ drop (k + 1) ps)) e
      ∙ ap (λ (z : Bool). z && headed (drop (k + 1) ps) ms) f

  pub head_all : (ls : List (List ℕ)) → length ps ≤ k → headed (drop k ps) ls ≡ true
  unfolding headed
  head_all ls h = ap (λ (qs : List (List ℕ)). headed qs ls) (drop_of_length-le ps h)
