-- An answer by the first check that fails: k is what the code found, n its definition. A refusal is that number, and where none failed the answer
-- stands. Assumes nothing.
use mathlib.Core.Path.{◌≡◌, refl, sym, ap, ◌∙◌}
use mathlib.Core.List.{List}
use Prim.Native.Nat.{ℕ, zero, suc}
use Rattle.common.specs.Outcome.{Outcome, refused, answered, outcome, unless_refused, area, written}

pub unless_refused_lem : {A : Type 0} (k n : ℕ) (o : Outcome A) → k ≡ n → (k ≡ 0 → ⊥) → refused k ≡ unless_refused n o
unless_refused_lem zero n o e h = absurd (h refl)
unless_refused_lem (suc k) n o e h = ap (λ (m : ℕ). unless_refused m o) e

pub unless_none : {A : Type 0} (k n : ℕ) (o : Outcome A) → k ≡ n → k ≡ 0 → o ≡ unless_refused n o
unless_none k n o e z = ap (λ (m : ℕ). unless_refused m o) (sym z ∙ e)

-- an answer that nothing else can refuse
pub outcome-refused : {A : Type 0} (k n : ℕ) (a : A) → k ≡ n → (k ≡ 0 → ⊥) → refused k ≡ outcome n a
outcome-refused k n a = unless_refused_lem k n (answered a)

pub outcome-answered : {A : Type 0} (k n : ℕ) (a : A) → k ≡ n → k ≡ 0 → answered a ≡ outcome n a
outcome-answered k n a = unless_none k n (answered a)

-- and of a lent area
pub area-refused : {A : Type 0} (k n : ℕ) (values old : List A) → k ≡ n → (k ≡ 0 → ⊥) → old ≡ area n values old
area-refused zero n values old e h = absurd (h refl)
area-refused (suc k) n values old e h = ap (λ (m : ℕ). area m values old) e

pub area-written : {A : Type 0} (k n : ℕ) (values old : List A) → k ≡ n → k ≡ 0 → written values old ≡ area n values old
area-written k n values old e z = ap (λ (m : ℕ). area m values old) (sym z ∙ e)
