-- What the lines of a body say: what the first says and then what those behind it say, and nothing at EOF and at the end. So a look over them counts,
-- and a walk along them writes, one line a turn. Assumes nothing.
use mathlib.Core.Path.{◌≡◌, refl, sym, ap, ◌∙◌}
use mathlib.Core.Bool.{Bool, true, false, cond}
use mathlib.Core.List.{List, [], ◌∷◌, ◌++◌, map, map-append}
use Prim.Native.Nat.{ℕ, suc, ◌+◌, ◌*◌, ◌≤◌}
use native.Mathlib.Omega.{arith}
use lib.IntN.{ℤ, pos}
use lib.ListN.{length, length-append, length-map}
use lib.Ieee.{Float}
use Rattle.sp3.specs.declared.line.Line.{Line}
use Rattle.sp3.specs.declared.line.Line.TheVariants.{Epoch, Located, Absent, Wrong, PassedOver}
use Rattle.sp3.specs.declared.header.TimeSystem.{TimeSystem}
use Rattle.std.proofs.Common.{None, Some}
use Rattle.common.specs.Text.{text}
use Rattle.sp3.specs.Lines.{lines, begins}
use Rattle.sp3.specs.Columns.{line_of}
use Rattle.sp3.specs.Records.{Kept, body, faulty, instant_after, kept_of, kept, instants_of, positions_of}
use Rattle.common.specs.Outcome.{written}
use Rattle.sp3.specs.Walks.{put_at, begun, fault_at, any_fault_from, looked_at}
use Rattle.sp3.proofs.Faults.{faults}
use Rattle.sp3.proofs.Cursor.{lines_few}
use Rattle.sp3.proofs.Areas.{put-put, put_front, put_none, length-put}

-- ---- what some lines say, up to one that begins EOF
abbrev pub saying : TimeSystem → List ℕ → List (List ℕ) → List Line
saying sys sat ls = map (line_of sys sat) (body ls)

module _ (sys : TimeSystem) (sat : List ℕ) where
  pub said_none : (ls : List (List ℕ)) → ls ≡ [] → saying sys sat ls ≡ []
  unfolding body
  said_none ls e = ap (saying sys sat) e

  module _ (l : List ℕ) (ls ms : List (List ℕ)) (e : ls ≡ l ∷ ms) where
    by_eof : (b : Bool) → begins (text "EOF") l ≡ b → saying sys sat ls ≡ map (line_of sys sat) (cond b [] (l ∷ body ms))
    unfolding body
    by_eof b f = ap (saying sys sat) e ∙ ap (λ (y : Bool). map (line_of sys sat) (cond y [] (l ∷ body ms))) f

    pub said_eof : begins (text "EOF") l ≡ true → saying sys sat ls ≡ []
    said_eof f = by_eof true f

    -- the line that was looked at stands first of those that are left
    pub said_next : (k : Line) → begins (text "EOF") l ≡ false → k ≡ line_of sys sat l → saying sys sat ls ≡ k ∷ saying sys sat ms
    said_next k f g = by_eof false f ∙ ap (λ (m : Line). m ∷ saying sys sat ms) (sym g)

-- no more records than bytes
few : (L : List Line) (t : ℤ) → length (kept t L) ≤ length L
unfolding kept
few [] t = omega arith
few (l ∷ L) t = omega (arith, length-append (kept_of l t) (kept (instant_after l t) L), few L (instant_after l t), one l t)
  where
    one : (l : Line) (t : ℤ) → length (kept_of l t) ≤ 1
    one (Epoch v) t = omega arith
    one (Located p) t = omega arith
    one Absent t = omega arith
    one Wrong t = omega arith
    one PassedOver t = omega arith

body_few : (ls : List (List ℕ)) → length (body ls) ≤ length ls
unfolding body
body_few [] = omega arith
body_few (l ∷ ls) = go (begins (text "EOF") l) (body_few ls)
  where
    go : (y : Bool) → length (body ls) ≤ length ls → length (cond y [] (l ∷ body ls)) ≤ suc (length ls)
    go true h = omega arith
    go false h = omega arith

pub kept_few : (sys : TimeSystem) (sat bs : List ℕ) → length (kept (pos 0) (saying sys sat (lines bs))) ≤ length bs
kept_few sys sat bs =
    omega (arith, few (saying sys sat (lines bs)) (pos 0), length-map (body (lines bs)) (line_of sys sat), body_few (lines bs), lines_few bs)

-- ---- counting: how many are kept does not depend on the instants
pub one-count : (l : Line) (t u : ℤ) → length (kept_of l t) ≡ length (kept_of l u)
one-count (Epoch v) t u = refl
one-count (Located p) t u = refl
one-count Absent t u = refl
one-count Wrong t u = refl
one-count PassedOver t u = refl

same_count : (L : List Line) (t u : ℤ) → length (kept t L) ≡ length (kept u L)
unfolding kept
same_count [] t u = refl
same_count (l ∷ L) t u =
    omega
    (arith, length-append (kept_of l t) (kept (instant_after l t) L), length-append (kept_of l u) (kept (instant_after l u) L), one-count l t u, same_count L (instant_after l t) (instant_after l u))

count_more : (l : Line) (L : List Line) (t : ℤ) → length (kept t (l ∷ L)) ≡ length (kept_of l (pos 0)) + length (kept (instant_after l t) L)
unfolding kept
count_more l L t = omega (arith, length-append (kept_of l t) (kept (instant_after l t) L), one-count l t (pos 0))

-- ---- the look: S is what all lines say, L what those that are left say
pub record Looking (S L : List Line) (started : Bool) (count : ℕ) : Type 0 where
  pub as_faulty : any_fault_from started L ≡ faulty S
  pub as_many : count + length (kept (pos 0) L) ≡ length (kept (pos 0) S)

module _ (S : List Line) where
  pub look_none : Looking S S false 0
  look_none = record { as_faulty = faults S; as_many = omega arith }

  -- what the look finds, by whether something is faulty
  by_faulty : (b : Bool) → faulty S ≡ b → looked_at S ≡ cond b None (Some (length (kept (pos 0) S)))
  by_faulty b e = ap (λ (y : Bool). cond y None (Some (length (kept (pos 0) S)))) e

  module _ (L : List Line) (started : Bool) (count : ℕ) (k : Looking S L started count) where
    pub look_end : L ≡ [] → Some count ≡ looked_at S
    unfolding any_fault_from kept
    look_end e =
        let n : length (kept (pos 0) L) ≡ 0 = ap (λ (M : List Line). length (kept (pos 0) M)) e in
        let m : count ≡ length (kept (pos 0) S) = omega (arith, k.as_many) in
        ap Some m ∙ sym (by_faulty false (sym k.as_faulty ∙ ap (any_fault_from started) e))

    -- by the first line that is left
    by_first : (l : Line) (M : List Line) (b : Bool) → L ≡ l ∷ M → fault_at l started ≡ b → faulty S ≡ cond b true (any_fault_from (begun l started) M)
    unfolding any_fault_from
    by_first l M b e f = sym k.as_faulty ∙ ap (any_fault_from started) e ∙ ap (λ (y : Bool). cond y true (any_fault_from (begun l started) M)) f

    pub look_wrong : (l : Line) (M : List Line) → L ≡ l ∷ M → fault_at l started ≡ true → None ≡ looked_at S
    look_wrong l M e f = sym (by_faulty true (by_first l M true e f))

    pub look_more : (l : Line) (M : List Line) → L ≡ l ∷ M → fault_at l started ≡ false → Looking S M (begun l started) (count + length (kept_of l (pos 0)))
    look_more l M e f = record {
      as_faulty = sym (by_first l M false e f);
      as_many = omega (arith, k.as_many, ap (λ (N : List Line). length (kept (pos 0) N)) e, count_more l M (pos 0), same_count M (instant_after l (pos 0)) (pos 0));
    }

-- ---- the walk that writes
pub positions-length : (K : List Kept) → length (positions_of K) ≡ 3 * length K
unfolding positions_of
positions-length [] = refl
positions-length (k ∷ K) = omega (arith, positions-length K)

positions-append : (J K : List Kept) → positions_of (J ++ K) ≡ positions_of J ++ positions_of K
unfolding positions_of
positions-append [] K = refl
positions-append (k ∷ J) K = ap (λ (l : List Float). k.position.x ∷ k.position.y ∷ k.position.z ∷ l) (positions-append J K)

pub record Writing (S : List Line) (is : List ℤ) (ps : List Float) (L : List Line) (t : ℤ) (count : ℕ) (is' : List ℤ) (ps' : List Float) : Type 0 where
  pub long_is : length is' ≡ length is
  pub long_ps : length ps' ≡ length ps
  pub as_many : count + length (kept t L) ≡ length (kept (pos 0) S)
  pub to_is : put_at count (instants_of (kept t L)) is' ≡ written (instants_of (kept (pos 0) S)) is
  pub to_ps : put_at (3 * count) (positions_of (kept t L)) ps' ≡ written (positions_of (kept (pos 0) S)) ps

module _ (S : List Line) (is : List ℤ) (ps : List Float) (hi : length (kept (pos 0) S) ≤ length is) (hp : 3 * length (kept (pos 0) S) ≤ length ps) where
  pub write_none : Writing S is ps S (pos 0) 0 is ps
  write_none = record { long_is = refl; long_ps = refl; as_many = omega arith; to_is = put_front (instants_of (kept (pos 0) S)) is; to_ps = put_front (positions_of (kept (pos 0) S)) ps }

  module _ (L : List Line) (t : ℤ) (count : ℕ) (is' : List ℤ) (ps' : List Float) (k : Writing S is ps L t count is' ps') where
    pub write_end : L ≡ [] → (is' ≡ written (instants_of (kept (pos 0) S)) is) × (ps' ≡ written (positions_of (kept (pos 0) S)) ps)
    unfolding kept positions_of
    write_end e = (
      sym (put_none count is') ∙ sym (ap (λ (M : List Line). put_at count (instants_of (kept t M)) is') e) ∙ k.to_is,
      sym (put_none (3 * count) ps') ∙ sym (ap (λ (M : List Line). put_at (3 * count) (positions_of (kept t M)) ps') e) ∙ k.to_ps,
    )

    -- the areas have room for the record of the next line
    pub room : (l : Line) (M : List Line) → L ≡ l ∷ M → (count + length (kept_of l t) ≤ length is') × (3 * count + 3 * length (kept_of l t) ≤ length ps')
    room l M e =
        let n = ap (λ (N : List Line). length (kept t N)) e ∙ count_more l M t in
        (omega (arith, n, k.as_many, k.long_is, one-count l t (pos 0)), omega (arith, n, k.as_many, k.long_ps, one-count l t (pos 0)))

    pub write_more : (l : Line) (M : List Line) (u : ℤ) (m : ℕ) (is'' : List ℤ) (ps'' : List Float) → L ≡ l ∷ M → u ≡ instant_after l t → m ≡ length (kept_of l (pos 0))
        → is'' ≡ put_at count (instants_of (kept_of l t)) is' → ps'' ≡ put_at (3 * count) (positions_of (kept_of l t)) ps'
        → Writing S is ps M u (count + m) is'' ps''
    unfolding kept
    write_more l M u m is'' ps'' e g d p q =
        let J = kept_of l t in
        let K = kept (instant_after l t) M in
        let h = ap (λ (v : ℤ). kept v M) g in
        let r = room l M e in
        let o = one-count l t (pos 0) in
        let li = length-map J (λ (x : Kept). x.instant) in
        let lp = positions-length J in
        let n = ap (λ (N : List Line). length (kept t N)) e ∙ count_more l M t in
        record {
          long_is = ap length p ∙ length-put count (instants_of J) is' (omega arith) ∙ k.long_is;
          long_ps = ap length q ∙ length-put (3 * count) (positions_of J) ps' (omega arith) ∙ k.long_ps;
          as_many = omega (arith, n, k.as_many, ap length h);
          to_is =
              ap (λ (N : List Kept). put_at (count + m) (instants_of N) is'') h
              ∙ ap (put_at (count + m) (instants_of K)) p
              ∙ put-put count (count + m) (instants_of J) (instants_of K) is' (omega arith) (omega arith)
              ∙ ap (λ (v : List ℤ). put_at count v is') (sym (map-append (λ (x : Kept). x.instant) J K))
              ∙ sym (ap (λ (N : List Line). put_at count (instants_of (kept t N)) is') e)
              ∙ k.to_is;
          to_ps =
              ap (λ (N : List Kept). put_at (3 * (count + m)) (positions_of N) ps'') h
              ∙ ap (put_at (3 * (count + m)) (positions_of K)) q
              ∙ put-put (3 * count) (3 * (count + m)) (positions_of J) (positions_of K) ps' (omega arith) (omega arith)
              ∙ ap (λ (v : List Float). put_at (3 * count) v ps') (sym (positions-append J K))
              ∙ sym (ap (λ (N : List Line). put_at (3 * count) (positions_of (kept t N)) ps') e)
              ∙ k.to_ps;
        }
