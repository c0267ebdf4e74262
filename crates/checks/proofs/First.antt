-- The number of the first check that fails: by the first of them, and 0 exactly where every check passes, so that each is then read off by its place. Assumes nothing.
use mathlib.Core.Path.{◌≡◌, refl, sym, ap, subst}
use mathlib.Core.Bool.{Bool, true, false, not, cond, ◌&&◌, ◌||◌, true≢false}
use mathlib.Core.List.{List, [], ◌∷◌}
use Prim.Native.Nat.{ℕ, zero, suc}
use native.Mathlib.Omega.{arith}
use borrow.Author.Tests.{eq-eqb}
use lib.Dec.{T, T_not, ltb, eqb}
use lib.ListN.{get_or}
use lib.Ieee.Fits.{and_l, and_r}
use Rattle.checks.specs.Entries.{Check, check, first_failing}

-- the first check fails, or it passes, or there is none
pub first-fails : (c : Check) (cs : List Check) → c.fails ≡ true → first_failing (c ∷ cs) ≡ c.number
unfolding first_failing
first-fails c cs h = ap (λ (b : Bool). cond b c.number (first_failing cs)) h

pub first_passes : (c : Check) (cs : List Check) → c.fails ≡ false → first_failing (c ∷ cs) ≡ first_failing cs
unfolding first_failing
first_passes c cs h = ap (λ (b : Bool). cond b c.number (first_failing cs)) h

pub none_fails : first_failing [] ≡ 0
unfolding first_failing
none_fails = refl

-- no check has the number 0
unfoldable pub numbered : List Check → Bool
numbered [] = true
numbered (c ∷ cs) = ltb 0 c.number && numbered cs

-- where the number is 0, the check at each place passes
pub passes : (cs : List Check) (k : ℕ) → T (numbered cs) → first_failing cs ≡ 0 → (get_or cs k (check 0 false)).fails ≡ false
unfolding first_failing numbered
passes [] k h e = refl
passes (c ∷ cs) k h e = go c.fails c.number k (and_l (ltb 0 c.number) (numbered cs) h) e (λ i. passes cs i (and_r (ltb 0 c.number) (numbered cs) h))
  where
    go : (b : Bool) (n k : ℕ) → T (ltb 0 n) → cond b n (first_failing cs) ≡ 0 → ((i : ℕ) → first_failing cs ≡ 0 → (get_or cs i (check 0 false)).fails ≡ false) → (get_or (check n b ∷ cs) k (check 0 false)).fails ≡ false
    go true zero k p e rest = absurd p
    go true (suc n) k p e rest = absurd (omega arith)
    go false n zero p e rest = refl
    go false n (suc k) p e rest = rest k e

-- no check of the list has the number k
unfoldable pub without : ℕ → List Check → Bool
without k [] = true
without k (c ∷ cs) = not (eqb c.number k) && without k cs

-- then it is not the number of the first that fails
pub never : (k : ℕ) (cs : List Check) → T (without (suc k) cs) → first_failing cs ≡ suc k → ⊥
unfolding first_failing without
never k [] h e = omega arith
never k (c ∷ cs) h e = go c.fails c.number (and_l (not (eqb c.number (suc k))) (without (suc k) cs) h) e (never k cs (and_r (not (eqb c.number (suc k))) (without (suc k) cs) h))
  where
    go : (b : Bool) (n : ℕ) → T (not (eqb n (suc k))) → cond b n (first_failing cs) ≡ suc k → (first_failing cs ≡ suc k → ⊥) → ⊥
    go true n p e rest = T_not (eqb n (suc k)) p (subst T (sym (eq-eqb n (suc k) e)) tt)
    go false n p e rest = rest e

pub neither : (a b : Bool) → (a || b) ≡ false → (a ≡ false) × (b ≡ false)
neither true b h = absurd (true≢false h)
neither false b h = (refl, h)

-- where the number is 0, the first check passes, and the number of the others is 0
pub passes_first : (n : ℕ) (b : Bool) (cs : List Check) → (n ≡ 0 → ⊥) → first_failing (check n b ∷ cs) ≡ 0 → (b ≡ false) × (first_failing cs ≡ 0)
unfolding first_failing
passes_first n true cs h e = absurd (h e)
passes_first n false cs h e = (refl, e)
