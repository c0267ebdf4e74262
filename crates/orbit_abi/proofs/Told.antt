-- A result that is told as what is made of an outcome's answer: its number is the outcome's, and a place that holds its answer, or what it held under a
-- refusal, holds what the outcome says. Assumes nothing.
use mathlib.Core.Path.{◌≡◌, refl, ap, ◌∙◌}
use Rattle.std.specs.Result.{MatchResult}
use Rattle.std.specs.Prelude.{Result, Ok, Err}
use Rattle.common.specs.declared.refusal.Refusal.{Refusal}
use Rattle.common.specs.Outcome.{Outcome, refused, answered, refusal_in, area_of, mapped}
use Rattle.common.specs.Refusals.{refusal_of, told}

module _ {A B : Type 0} (f : A → B) (new old : B) (Shown : B → Type 0) (shows : (b : B) → Shown b → new ≡ b) where
  pub told_mapped : (r : Result B Refusal) (o : Outcome A) → told (λ (b : B). b) r ≡ mapped f o → MatchResult r Shown (λ _. new ≡ old) → (refusal_of r ≡ refusal_in o) × (new ≡ area_of f o old)
  told_mapped (Ok b) (answered a) e h = (refl, shows b h ∙ ap (λ (x : Outcome B). area_of (λ (y : B). y) x old) e)
  told_mapped (Ok b) (refused n) e h = cc
  told_mapped (Err x) (answered a) e h = cc
  told_mapped (Err x) (refused n) e h = (ap refusal_in e, h)
