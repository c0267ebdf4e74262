-- An array that a closure made of each index is the list of what the closure gives. Assumes nothing.
use mathlib.Core.Path.{◌≡◌, refl, sym, ap, subst, ◌∙◌}
use mathlib.Core.List.{List}
use mathlib.Core.Logic.{◌⊎◌, inl, inr}
use Prim.Native.Nat.{ℕ, zero, suc, ◌+◌, ◌<◌, ◌≤◌}
use native.Mathlib.Nat.{eq-or-lt_of_le}
use native.Mathlib.Omega.{arith}
use denote.Param.Members.{Mut, Called}
use lib.ListN.{get_or}
use Rattle.std.specs.Array.{IsFromFnResult, IsFromFnResultFrom}
use Rattle.common.specs.Lists.{list_of}
use Rattle.common.proofs.Filled.{filled}

-- an index is the first or a later one
first_or_later : {P : Type 0} (i k : ℕ) → i ≤ k → (i ≡ k → P) → (i < k → P) → P
first_or_later {P} i k low first later = go (eq-or-lt_of_le low)
  where
    go : (i ≡ k) ⊎ (i < k) → P
    go (inl e) = first e
    go (inr l) = later l

-- by each index, where a call at i gives f i and leaves the closure as it was
module _ {F B : Type 0} (g : Mut F (ℕ × Unit {0}) B) (f : ℕ → B) (s : F) (ys : List B) (d : B) (gives : (i : ℕ) (y : B) (q : F) → Called g s (i, tt) y q → (q ≡ s) × (y ≡ f i)) where
  indices_from : (n i : ℕ) (p : F) → p ≡ s → IsFromFnResultFrom g p ys i n → (k : ℕ) → i ≤ k → k < i + n → get_or ys k d ≡ f k
  indices_from zero i p same h k low high = absurd (omega arith)
  indices_from (suc n) i p same h k low high =
      let call : (h.0 ≡ s) × (h.1 ≡ f i) = gives i h.1 h.0 (subst (λ (x : F). Called g x (i, tt) h.1 h.0) same h.3) in
      first_or_later i k low
      (λ e. ap (λ (m : ℕ). get_or ys m d) (sym e) ∙ h.2.1 d ∙ call.1 ∙ ap f e)
      (λ later. indices_from n (i + 1) h.0 call.0 h.4 k (omega arith) (omega arith))

  pub made_of_indices : (n : ℕ) → IsFromFnResult g s ys n → ys ≡ list_of f n 0
  made_of_indices n made = filled f n d ys made.long (λ k h. indices_from n 0 s refl made.each k (omega arith) (omega arith))
