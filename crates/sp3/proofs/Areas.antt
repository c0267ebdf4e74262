-- Areas as they fill: values put at a place, and then others behind them. Assumes nothing.
use mathlib.Core.Path.{◌≡◌, sym, ap, ◌∙◌}
use mathlib.Core.List.{List, [], ◌∷◌, ◌++◌, append_assoc}
use Prim.Native.Nat.{ℕ, ◌+◌, ◌≤◌}
use native.Mathlib.Nat.{zero-add, add-zero}
use native.Mathlib.Omega.{arith}
use lib.ListN.{length, take, drop, set, length-append, length-drop, take-append-drop}
use lib.Seq.{length-take-le, take_at, drop-append-add, drop-drop, sets-eq}
use borrow.Rule.Slice.PartMut.{put_mid}
use Rattle.common.specs.Outcome.{written}
use Rattle.sp3.specs.Walks.{put_at}

-- values put behind others
pub put-put : {A : Type 0} (at m : ℕ) (qs rs old : List A) → at ≤ length old → m ≡ at + length qs → put_at m rs (put_at at qs old) ≡ put_at at (qs ++ rs) old
put-put at m qs rs old h e =
    let p = take at old ++ qs in
    let d = drop (at + length qs) old in
    let l : length p ≡ m = omega (arith, length-append (take at old) qs, length-take-le at old h) in
    let n : m + length rs ≡ length p + length rs = omega arith in
    let o : at + length qs + length rs ≡ at + length (qs ++ rs) = omega (arith, length-append qs rs) in
    ap (λ x. take m x ++ (rs ++ drop (m + length rs) x)) (sym (append_assoc (take at old) qs d))
    ∙ ap (λ x. x ++ (rs ++ drop (m + length rs) (p ++ d))) (take_at p d m l)
    ∙ ap (λ x. p ++ (rs ++ x)) (ap (λ k. drop k (p ++ d)) n ∙ drop-append-add p d (length rs) ∙ drop-drop (length rs) (at + length qs) old ∙ ap (λ k. drop k old) o)
    ∙ append_assoc (take at old) qs (rs ++ drop (at + length (qs ++ rs)) old)
    ∙ ap (λ x. take at old ++ x) (sym (append_assoc qs rs (drop (at + length (qs ++ rs)) old)))

pub put_front : {A : Type 0} (qs old : List A) → put_at 0 qs old ≡ written qs old
put_front qs old = ap (λ n. qs ++ drop n old) (zero-add (length qs))

pub put_none : {A : Type 0} (at : ℕ) (old : List A) → put_at at [] old ≡ old
put_none at old = ap (λ n. take at old ++ drop n old) (add-zero at) ∙ take-append-drop at old

pub length-put : {A : Type 0} (at : ℕ) (qs old : List A) → at + length qs ≤ length old → length (put_at at qs old) ≡ length old
length-put at qs old h =
    omega (arith, length-append (take at old) (qs ++ drop (at + length qs) old), length-take-le at old (omega arith), length-append qs (drop (at + length qs) old), length-drop (at + length qs) old)

-- one value stored
pub one : {A : Type 0} (old : List A) (at : ℕ) (a : A) → at + 1 ≤ length old → set old at a ≡ put_at at (a ∷ []) old
one old at a h = sets-eq (a ∷ []) old at h ∙ append_assoc (take at old) (a ∷ []) (drop (at + 1) old)

-- three written over a part of that length
pub three : {A : Type 0} (old new : List A) (at k : ℕ) (a b c : A) → new ≡ a ∷ b ∷ c ∷ [] → k ≡ 3 → put_mid at k old new ≡ put_at at (a ∷ b ∷ c ∷ []) old
three old new at k a b c e f =
    ap (λ (n : ℕ). put_mid at n old new) f ∙ ap (put_mid at 3 old) e ∙ ap (λ l. take at old ++ (a ∷ b ∷ c ∷ l)) (drop-drop 3 at old)
