-- The places of a slice of positions, three doubles at a time: the library's chunks, each tested, as the definition tests them. By the first place. Assumes nothing.
use Rattle.std.proofs.Common.{◌≡◌, refl, ap, ◌||◌, ℕ, zero, suc, ◌*◌, ◌≤◌, ◌<◌, ◌+◌, Bool, List, [], ◌∷◌, length, get_or, arith}
use Rattle.std.specs.List.{list_any}
use Rattle.std.specs.Simd.{first_chunks}
use lib.Ieee.{Float, nan}
use Rattle.checks.specs.Limits.{axes}
use Rattle.checks.specs.Checks.{misplaced, any_misplaced}

-- the test of a place by its three doubles
abbrev pub place_misplaced : List Float → Bool
place_misplaced p = misplaced (get_or p 0 nan) (get_or p 1 nan) (get_or p 2 nan)

-- of the whole places, and fewer than three doubles after them
pub by_chunks : (k : ℕ) (l : List Float) → axes * k ≤ length l → length l < axes * k + axes → list_any place_misplaced (first_chunks axes k l) ≡ any_misplaced l
unfolding any_misplaced
by_chunks zero [] h b = refl
by_chunks zero (x ∷ []) h b = refl
by_chunks zero (x ∷ y ∷ []) h b = refl
by_chunks zero (x ∷ y ∷ z ∷ r) h b = absurd (omega arith)
by_chunks (suc k) [] h b = absurd (omega arith)
by_chunks (suc k) (x ∷ []) h b = absurd (omega arith)
by_chunks (suc k) (x ∷ y ∷ []) h b = absurd (omega arith)
by_chunks (suc k) (x ∷ y ∷ z ∷ r) h b = ap (λ (t : Bool). misplaced x y z || t) (by_chunks k r (omega arith) (omega arith))
