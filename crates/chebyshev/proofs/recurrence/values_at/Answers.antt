-- Below j the array holds T0 to T(j − 1), so a turn writes Tj by the recurrence, and at the end the array is T0 to T9. Assumes nothing.
use mathlib.Core.Path.{◌≡◌, refl}
use mathlib.Core.List.{List, ◌∷◌}
use Prim.Native.Nat.{ℕ, zero, suc, ◌-◌, ◌≤◌, ◌<◌}
use native.Mathlib.Omega.{arith}
use lib.ListN.{get_or, length-set, replicate}
use lib.Ieee.{Float, nan, binary64, of_bits, sub, mul}
use Rattle.chebyshev.specs.Recurrence.{rounded, T}
use Rattle.common.proofs.Filled.{filled, filled_more}
use Rattle.chebyshev.proofs.Sums.{T-step}
use borrow.Author.Rules.{rules}
use Rattle.chebyshev.proofs.recurrence.values_at.Goals as goal

first_two : (tau : Float) (rest : List Float) (k : ℕ) → k < 2 → get_or (of_bits binary64 4607182418800017408 ∷ tau ∷ rest) k nan ≡ T rounded tau k
unfolding of_bits T
first_two tau rest zero h = refl
first_two tau rest (suc zero) h = refl
first_two tau rest (suc (suc k)) h = absurd (none k h)
  where
    none : (k : ℕ) → suc (suc k) < 2 → ⊥
    none k h = omega arith

next_value : (tau : Float) (t : List Float) (j : ℕ) → 2 ≤ j → ((k : ℕ) → k < j → get_or t k nan ≡ T rounded tau k)
    → sub binary64 (mul binary64 (mul binary64 (of_bits binary64 4611686018427387904) tau) (get_or t (j - 1) nan)) (get_or t (j - 2) nan) ≡ T rounded tau j
unfolding of_bits
next_value tau t j h below = rw (below (j - 1) (omega arith), below (j - 2) (omega arith)) (T-step rounded tau j h)

pub loop-j-init : goal.loop-j-init
loop-j-init c = (search rules, search rules, search rules, first_two c.args.tau (replicate 8 (of_bits binary64 4607182418800017408)))

pub loop-j-preserved : goal.loop-j-preserved
loop-j-preserved c =
    let at = c.loop-j in
    let tau = c.args.tau in
    (search rules, search rules, simp length-set (search rules), filled_more (T rounded tau) nan at.t at.j _ (omega arith) (next_value tau at.t at.j (omega arith) at.invariant.3) at.invariant.3)

pub returns : goal.returns
returns c =
    let at = c.loop-j in
    filled (T rounded c.args.tau) 10 nan at.t at.invariant.2 (λ k h. at.invariant.3 k (omega arith))
