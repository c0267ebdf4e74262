-- As for the values: below j the array holds T'0 to T'(j − 1), and a turn writes T'j by the differentiated recurrence. Assumes nothing.
use mathlib.Core.Path.{◌≡◌, refl, ap, ◌∙◌}
use mathlib.Core.List.{List, ◌∷◌}
use Prim.Native.Nat.{ℕ, zero, suc, ◌+◌, ◌-◌, ◌≤◌, ◌<◌}
use native.Mathlib.Omega.{arith}
use lib.ListN.{get_or, length-set, replicate}
use lib.Ieee.{Float, nan, binary64, of_bits, add, sub, mul}
use Rattle.chebyshev.specs.Recurrence.{rounded, T, T', polynomials}
use Rattle.common.proofs.Filled.{filled, filled_more, get_or-list_of}
use Rattle.chebyshev.proofs.Sums.{T'-step}
use borrow.Author.Rules.{rules}
use Rattle.chebyshev.proofs.recurrence.slopes_from.Goals as goal

first_two : (tau : Float) (rest : List Float) (k : ℕ) → k < 2 → get_or (of_bits binary64 0 ∷ of_bits binary64 4607182418800017408 ∷ rest) k nan ≡ T' rounded tau k
unfolding of_bits T'
first_two tau rest zero h = refl
first_two tau rest (suc zero) h = refl
first_two tau rest (suc (suc k)) h = absurd (none k h)
  where
    none : (k : ℕ) → suc (suc k) < 2 → ⊥
    none k h = omega arith

next_slope : (tau : Float) (t dt : List Float) (j : ℕ) → 2 ≤ j → j < 10 → t ≡ polynomials rounded tau → ((k : ℕ) → k < j → get_or dt k nan ≡ T' rounded tau k)
    → sub binary64 (add binary64 (mul binary64 (of_bits binary64 4611686018427387904) (get_or t (j - 1) nan)) (mul binary64 (mul binary64 (of_bits binary64 4611686018427387904) tau) (get_or dt (j - 1) nan))) (get_or dt (j - 2) nan) ≡ T' rounded tau j
unfolding of_bits
next_slope tau t dt j h l e below =
    let v : get_or t (j - 1) nan ≡ T rounded tau (j - 1) = ap (λ (x : List Float). get_or x (j - 1) nan) e ∙ get_or-list_of (T rounded tau) 10 0 (j - 1) nan (omega arith) ∙ zero-first (j - 1) in
    rw (v, below (j - 1) (omega arith), below (j - 2) (omega arith)) (T'-step rounded tau j h)
  where
    zero-first : (k : ℕ) → T rounded tau (0 + k) ≡ T rounded tau k
    zero-first k = let e : 0 + k ≡ k = omega arith in ap (T rounded tau) e

pub loop-j-init : goal.loop-j-init
loop-j-init c = (search rules, search rules, search rules, c.requires, first_two c.args.tau (replicate 8 (of_bits binary64 0)))

pub loop-j-preserved : goal.loop-j-preserved
loop-j-preserved c =
    let at = c.loop-j in
    let tau = c.args.tau in (
      search rules,
      search rules,
      simp length-set (search rules),
      at.invariant.3,
      filled_more (T' rounded tau) nan at.dt at.j _ (omega arith) (next_slope tau _ at.dt at.j (omega arith) (omega arith) at.invariant.3 at.invariant.4) at.invariant.4,
    )

pub returns : goal.returns
returns c =
    let at = c.loop-j in
    filled (T' rounded c.args.tau) 10 nan at.dt at.invariant.2 (λ k h. at.invariant.4 k (omega arith))
