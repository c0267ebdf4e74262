-- The Chebyshev polynomials by DLMF 18.9's recurrence, their derivatives by the recurrence differentiated, and sums of ten of them.
-- Each is written once, over an arithmetic; `rounded` is a double's, each operation rounded once. Request 2.8 will put an exact one beside it.
use Rattle.std.specs.Prelude.{ℕ, zero, suc, List, [], ◌∷◌, Float}
use Rattle.common.specs.Rounded.{◌⊕◌, ◌⊖◌, ◌⊗◌}
use Rattle.common.specs.Numbers as Numbers
use Rattle.common.specs.Lists.{list_of}
use Rattle.chebyshev.specs.declared.recurrence.Evaluation.{Evaluation}

-- what the recurrence needs of a number
pub record Arithmetic (A : Type 0) : Type 0 where
  pub nought : A
  pub unity : A
  pub two : A
  pub plus : A → A → A
  pub less : A → A → A
  pub times : A → A → A

-- T0 = 1, T1 = τ, Tj = 2τ T(j−1) − T(j−2)
unfoldable pub T : {A : Type 0} → Arithmetic A → A → ℕ → A
T a τ zero = a.unity
T a τ (suc zero) = τ
T a τ (suc (suc j)) = a.less (a.times (a.times a.two τ) (T a τ (suc j))) (T a τ j)

-- the derivative: T'0 = 0, T'1 = 1, T'j = 2 T(j−1) + 2τ T'(j−1) − T'(j−2)
unfoldable pub T' : {A : Type 0} → Arithmetic A → A → ℕ → A
unfolding T
T' a τ zero = a.nought
T' a τ (suc zero) = a.unity
T' a τ (suc (suc j)) = a.less (a.plus (a.times a.two (T a τ (suc j))) (a.times (a.times a.two τ) (T' a τ (suc j)))) (T' a τ j)

-- how many polynomials a sum has
abbrev pub terms : ℕ
terms = 10

-- T0 to T9 at τ
abbrev pub polynomials : {A : Type 0} → Arithmetic A → A → List A
polynomials a τ = list_of (T a τ) terms 0

-- the derivatives of T0 to T9 at τ
abbrev pub derivatives : {A : Type 0} → Arithmetic A → A → List A
derivatives a τ = list_of (T' a τ) terms 0

-- s + c0 t0 + c1 t1 + .., one term after the other
unfoldable pub weighted_from : {A : Type 0} → Arithmetic A → A → List A → List A → A
weighted_from a s [] ts = s
weighted_from a s (c ∷ cs) [] = s
weighted_from a s (c ∷ cs) (t ∷ ts) = weighted_from a (a.plus s (a.times c t)) cs ts

-- "Sums start at 0.0, j from 0 to 9"
abbrev pub weighted : {A : Type 0} → Arithmetic A → List A → List A → A
weighted a c t = weighted_from a a.nought c t

-- the sum with the coefficients c at τ
abbrev pub value_of : {A : Type 0} → Arithmetic A → List A → A → A
value_of a c τ = weighted a c (polynomials a τ)

-- the slope of the sum at τ, for each unit of τ
abbrev pub slope_of : {A : Type 0} → Arithmetic A → List A → A → A
slope_of a c τ = weighted a c (derivatives a τ)

-- doubles: each operation rounds once
abbrev pub rounded : Arithmetic Float
rounded = record {
  nought = Numbers.nought;
  unity = Numbers.one;
  two = Numbers.two;
  plus = ◌⊕◌;
  less = ◌⊖◌;
  times = ◌⊗◌;
}

-- the entry: the sum of doubles with the coefficients c at τ, and its slope
abbrev pub evaluate_chebyshev : List Float → Float → Evaluation
evaluate_chebyshev c τ = record { value = value_of rounded c τ; slope = slope_of rounded c τ }
