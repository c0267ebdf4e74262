-- What an entry gives: the refusal's number, or its answer; and what a lent area holds afterwards.
use Rattle.std.specs.Prelude.{ℕ, zero, suc, List, ◌++◌, length, drop}

-- a refusal, or an answer
pub data Outcome (A : Type 0) : Type 0 where
  refused : ℕ → Outcome A
  answered : A → Outcome A

-- the refusal's number, 0 where there is an answer
abbrev pub refusal_in : {A : Type 0} → Outcome A → ℕ
refusal_in (refused n) = n
refusal_in (answered a) = 0

-- 0 says answered: an answer, or a refusal whose number is not 0
abbrev pub Told : {A : Type 0} → Outcome A → Type 0
Told (refused zero) = ⊥
Told (refused (suc n)) = Unit {0}
Told (answered a) = Unit {0}

-- what is made of an answer; a refusal stays
abbrev pub mapped : {A B : Type 0} → (A → B) → Outcome A → Outcome B
mapped f (refused n) = refused n
mapped f (answered a) = answered (f a)

-- a refusal by the first check that fails, or where none does, which 0 says, what comes after the checks
abbrev pub unless_refused : {A : Type 0} → ℕ → Outcome A → Outcome A
unless_refused zero o = o
unless_refused (suc n) o = refused (suc n)

-- the same of an answer that nothing else can refuse
abbrev pub outcome : {A : Type 0} → ℕ → A → Outcome A
outcome n a = unless_refused n (answered a)

-- a lent area with the values at its front, the rest of it untouched
abbrev pub written : {A : Type 0} → List A → List A → List A
written values old = values ++ drop (length values) old

-- an area of just the answer's size holds what is made of the answer, or what it held where the call is refused
abbrev pub area_of : {A B : Type 0} → (A → B) → Outcome A → B → B
area_of f (refused n) old = old
area_of f (answered a) old = f a

-- what a lent area holds afterwards: the values at its front, or what it held where the call is refused
abbrev pub area : {A : Type 0} → ℕ → List A → List A → List A
area zero values old = written values old
area (suc n) values old = old
