-- The residuals of a recording, and those of its instants that are such, one sample after the other. Assumes nothing.
use mathlib.Core.Path.{◌≡◌, refl, ap, ◌∙◌}
use mathlib.Core.Bool.{Bool, true, false, cond}
use mathlib.Core.Logic.{◌⊎◌, inl, inr}
use mathlib.Core.List.{List, [], ◌∷◌, ◌++◌, append_assoc, append-nil}
use Prim.Native.Nat.{ℕ, suc, ◌+◌, ◌≤◌, ◌<◌}
use native.Mathlib.Numerals.{add-one}
use native.Mathlib.Omega.{arith}
use lib.IntN.{ℤ, pos}
use lib.ListN.{length, get_or, take, drop, set, drop_of_length-le}
use lib.Seq.{drop-cons, take-suc-set}
use lib.Ieee.{Float}
use Rattle.std.specs.List.{filter}
use Rattle.common.specs.Lists.{those, how_many}
use Rattle.common.proofs.Those.{those_none, those_yes, those_no}
use Rattle.samples.specs.Means.{Sample, recording}
use Rattle.orbit.specs.Residuals.{Residual, skipped, residual, residuals}

module _ (f : Sample → Residual) (ss : List ℤ) (bs : List Float) (before : List Float) where
  module _ (t : ℤ) (x : Float) (ts : List ℤ) (xs : List Float) (first : ss ≡ t ∷ ts) (second : bs ≡ x ∷ xs) where
    -- one sample more that has a residual, which stands after those before
    pub one_residual : (y : Float) → residual y ≡ f (record { instant = t; frequency = x }) → (before ++ y ∷ []) ++ residuals f (recording ts xs) ≡ before ++ residuals f (recording ss bs)
    unfolding residuals recording
    one_residual y e = rw (first, second, ← e) (append_assoc before (y ∷ []) (residuals f (recording ts xs)))

    -- and one that has none
    pub no_residual : skipped ≡ f (record { instant = t; frequency = x }) → before ++ residuals f (recording ts xs) ≡ before ++ residuals f (recording ss bs)
    unfolding residuals recording
    no_residual e = rw (first, second, ← e)

  -- behind the last sample there is none
  pub residuals_end : (length ss ≡ 0) ⊎ (length bs ≡ 0) → before ++ residuals f (recording ss bs) ≡ before
  unfolding residuals recording
  residuals_end e = ap (λ (l : List Float). before ++ l) (none ss bs e) ∙ append-nil before
    where
      none : (ts : List ℤ) (xs : List Float) → (length ts ≡ 0) ⊎ (length xs ≡ 0) → residuals f (recording ts xs) ≡ []
      none [] xs h = refl
      none (t ∷ ts) [] h = refl
      none (t ∷ ts) (x ∷ xs) (inl h) = absurd (omega arith)
      none (t ∷ ts) (x ∷ xs) (inr h) = absurd (omega arith)

-- one value written after the first n
pub pushed : (l : List Float) (n : ℕ) (v : Float) → n < length l → take (n + 1) (set l n v) ≡ take n l ++ v ∷ []
pushed l n v h = rw add-one (take-suc-set l n v h)

-- as many as pass a filter that decides each of the list alike
pub filter_is : (f p : ℤ → Bool) (ts : List ℤ) → ((k : ℕ) → f (get_or ts k (pos 0)) ≡ p (get_or ts k (pos 0))) → length (filter f ts) ≡ how_many p ts
unfolding those
filter_is f p [] h = refl
filter_is f p (t ∷ ts) h = let e : f t ≡ p t = h 0 in rw e (go (p t) (filter_is f p ts (λ k. h (suc k))))
  where
    go : (v : Bool) → length (filter f ts) ≡ how_many p ts → length (cond v (t ∷ filter f ts) (filter f ts)) ≡ length (cond v (t ∷ those p ts) (those p ts))
    go true r = ap suc r
    go false r = r

-- n of the instants before i are such: with the one at i there is one more where it is such, and no more where it is not
module _ (p : ℤ → Bool) (ts : List ℤ) (i n : ℕ) where
  pub counted_yes : i < length ts → p (get_or ts i (pos 0)) ≡ true → how_many p (drop (i + 1) ts) + (n + 1) ≡ how_many p (drop i ts) + n
  counted_yes h e =
      let more : how_many p (drop i ts) ≡ suc (how_many p (drop (i + 1) ts)) = rw add-one (ap length (ap (those p) (drop-cons ts i (pos 0) h) ∙ those_yes p (get_or ts i (pos 0)) (drop (suc i) ts) e)) in
      omega (arith, more)

  pub counted_no : i < length ts → p (get_or ts i (pos 0)) ≡ false → how_many p (drop (i + 1) ts) + n ≡ how_many p (drop i ts) + n
  counted_no h e =
      let same : how_many p (drop i ts) ≡ how_many p (drop (i + 1) ts) = rw add-one (ap length (ap (those p) (drop-cons ts i (pos 0) h) ∙ those_no p (get_or ts i (pos 0)) (drop (suc i) ts) e)) in
      omega (arith, same)

  -- behind the last there is none
  pub counted_end : length ts ≤ i → how_many p (drop i ts) + n ≡ n
  counted_end h = let none : how_many p (drop i ts) ≡ 0 = ap length (ap (those p) (drop_of_length-le ts h) ∙ those_none p) in omega (arith, none)
