-- The first sample behind it that is not of the second ends the run, and so does the end of the samples. Assumes nothing.
use Rattle.std.proofs.Common.{rules, Option, Some, None}
use borrow.Author.Tests.{tests, not-false}
use mathlib.Core.Path.{◌≡◌, refl, sym, ap, ◌∙◌}
use mathlib.Core.Logic.{◌⊎◌, inl, inr}
use mathlib.Core.Bool.{Bool, true, false, not, cond}
use mathlib.Core.List.{List, [], ◌∷◌}
use Prim.Native.Nat.{ℕ, ◌+◌, ◌-◌, ◌≤◌, ◌<◌}
use native.Mathlib.Nat.{eq-or-lt_of_le}
use native.Mathlib.Omega.{arith}
use lib.Dec.{T, T_not, ltb, nltb→le}
use lib.IntN.{ℤ, pos}
use lib.ListN.{length, get_or, drop, length-drop}
use lib.Seq.{get_or-drop, take_all}
use mir.Syntax.{w64}
use mir.Val.{SFits}
use mir.ValLaws.{to_z-of_z}
use Rattle.std.specs.List.{prefix_len, position_or_len}
use Rattle.std.specs.Option.{unwrap_or}
use Rattle.std.proofs.lemmas.Iterator.{YieldsList-from_slice}
use Rattle.std.proofs.lemmas.Iterator.Search.{position_from_yields_List}
use Rattle.std.proofs.lemmas.List.Sums.{fails_before_first, passes_at_first}
use Rattle.common.proofs.Parts.{back}
use Rattle.common.specs.Integers.{eq_z}
use Rattle.common.proofs.Tests.{holds}
use Rattle.common.proofs.Integers.{eq_z→eq, eq→eq_z}
use Rattle.samples.specs.Means.{whole_second}
use Rattle.samples.specs.Runs.{Limited, second_at, Run}
use Rattle.samples.proofs.Limits.{limit_fits}
use Rattle.samples.proofs.runs.run_end.Goals as goal

-- the test that ends the run, as the machine makes it
abbrev outside : ℤ → ℤ → Bool
outside start t = not (eq_z (whole_second (back t)) (whole_second (back start)))

module _ (ts : List ℤ) (from : ℕ) (start : ℤ) (r : Limited ts) (f : SFits w64 start) (e : whole_second start ≡ second_at ts from) (within : from < length ts) where
  -- of sample k, on the seconds
  on_seconds : (k : ℕ) → outside start (get_or ts k (pos 0)) ≡ not (eq_z (second_at ts k) (second_at ts from))
  on_seconds k =
      let t = get_or ts k (pos 0) in
      ap (λ (z : ℤ). not (eq_z (whole_second z) (whole_second (back start)))) (to_z-of_z w64 t (limit_fits t (r k)))
      ∙ ap (λ (z : ℤ). not (eq_z (whole_second t) (whole_second z))) (to_z-of_z w64 start f)
      ∙ ap (λ (z : ℤ). not (eq_z (whole_second t) z)) e

  -- sample k after the first is sample j of the rest
  of_rest : (j k : ℕ) → from + 1 + j ≡ k → outside start (get_or (drop (from + 1) ts) j (pos 0)) ≡ not (eq_z (second_at ts k) (second_at ts from))
  of_rest j k w = ap (outside start) (get_or-drop (from + 1) ts j (pos 0)) ∙ ap (λ (i : ℕ). outside start (get_or ts i (pos 0))) w ∙ on_seconds k

  run_is : (p : ℕ) → p ≡ position_or_len (outside start) (drop (from + 1) ts) → p ≤ length (drop (from + 1) ts) → Run ts from (from + 1 + p)
  run_is p q l =
      record {
        later = omega arith;
        inside = omega (arith, length-drop (from + 1) ts);
        same = λ k h m. among k h m (eq-or-lt_of_le h);
        ended = λ h s. ends h s;
      }
    where
      among : (k : ℕ) → from ≤ k → k < from + 1 + p → (from ≡ k) ⊎ (from < k) → second_at ts k ≡ second_at ts from
      among k h m (inl u) = ap (second_at ts) (sym u)
      among k h m (inr u) =
          let j = k - (from + 1) in
          let n = fails_before_first (outside start) (drop (from + 1) ts) j (pos 0) (omega (arith, q)) in
          eq_z→eq (second_at ts k) (second_at ts from) (holds (not-false (eq_z (second_at ts k) (second_at ts from)) (sym (of_rest j k (omega arith)) ∙ n)))

      ends : from + 1 + p < length ts → second_at ts (from + 1 + p) ≡ second_at ts from → ⊥
      ends h s =
          let first = passes_at_first (outside start) (drop (from + 1) ts) (pos 0) (omega (arith, q, length-drop (from + 1) ts)) in
          let n : outside start (get_or (drop (from + 1) ts) p (pos 0)) ≡ true = ap (λ (i : ℕ). outside start (get_or (drop (from + 1) ts) i (pos 0))) q ∙ first in
          T_not (eq_z (second_at ts (from + 1 + p)) (second_at ts from)) (holds (sym (of_rest p (from + 1 + p) refl) ∙ n)) (eq→eq_z (second_at ts (from + 1 + p)) (second_at ts from) s)

-- what is found, or the length where nothing is, is that place
place_is : (place long m : ℕ) (r : Option ℕ) → place ≤ long → r ≡ cond (ltb place long) (Some place) None → m ≡ unwrap_or r long → m ≡ place
place_is place long m r h e u = u ∙ ap (λ (o : Option ℕ). unwrap_or o long) e ∙ go (ltb place long) (nltb→le place long)
  where
    go : (v : Bool) → (T (not v) → long ≤ place) → unwrap_or (cond v (Some place) None) long ≡ place
    go true f = refl
    go false f = let l = f tt in omega arith

-- which is in the list or its length
prefix_within : (p : ℤ → Bool) (l : List ℤ) → prefix_len p l ≤ length l
prefix_within p [] = omega arith
prefix_within p (x ∷ l) = go (p x) (prefix_within p l)
  where
    go : (v : Bool) → prefix_len p l ≤ length l → cond v (1 + prefix_len p l) 0 ≤ length (x ∷ l)
    go true h = omega arith
    go false h = omega arith

pub returns : goal.returns
returns c =
    let ts = c.args.samples.now.instants.now in
    let start = c.args.start in
    let from = c.args.from in
    let rest = drop (from + 1) ts in
    let whole = take_all (length ts - (from + 1)) rest (omega (arith, length-drop (from + 1) ts)) in
    let found = position_from_yields_List (outside start) _ _ c.position.result c.position.ensures.ran (YieldsList-from_slice rest (c.iter.ensures.rest ∙ whole)) (λ x b q k. search (rules, tests)) in
    let within = prefix_within (λ t. not (outside start t)) rest in
    let here = place_is (position_or_len (outside start) rest) (length rest) c.unwrap_or-more.result c.position.result within found (c.unwrap_or-more.ensures ∙ ap (λ (l : List ℤ). unwrap_or c.position.result (length l)) whole) in
    run_is ts from start c.args.samples.now.checked.near c.ranges.start c.requires.start_value c.requires.from_in_bounds c.unwrap_or-more.result here (omega arith)
