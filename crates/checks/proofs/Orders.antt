-- Instants rise where none of the pairs of an instant and the next falls or stays. By the first two. Assumes nothing.
use Rattle.std.proofs.Common.{◌≡◌, refl, ap, not, ◌||◌, Bool, List, [], ◌∷◌, drop}
use Rattle.std.specs.List.{list_any, zip}
use lib.IntN.{ℤ}
use lib.Signed.{lt_z}
use Rattle.checks.specs.Checks.{unrising}

-- the test of each pair
pub by_pairs : (l : List ℤ) → list_any (λ p. not (lt_z p.0 p.1)) (zip l (drop 1 l)) ≡ unrising l
unfolding unrising
by_pairs [] = refl
by_pairs (a ∷ []) = refl
by_pairs (a ∷ b ∷ r) = ap (λ (t : Bool). not (lt_z a b) || t) (by_pairs (b ∷ r))
