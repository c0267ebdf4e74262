-- Of a list of placed entries with a satellite, one of this satellite is superseded by none: each entry that is put before the list either supersedes the one found so far, and then nothing in the
-- list supersedes it, since that would supersede the one found so far too; or it leaves that one standing. No two places of one satellite survive, since one of them supersedes the other.
-- Assumes nothing.
use Prim.Native.Nat.{ℕ}
use mathlib.Core.Path.{◌≡◌, refl, sym, subst, ◌∙◌}
use mathlib.Core.Logic.{◌⊎◌, inl, inr}
use mathlib.Core.Bool.{Bool, true, false, not, ◌||◌, ◌&&◌}
use mathlib.Core.List.Memᴰ
use mathlib.Core.List.{List, [], ◌∷◌, Memᴰ}
use lib.Dec.{T, T_not, not_T, eqb, eqb→eq}
use lib.Ieee.Fits.{eq→eqb, and_i, and_l, and_r}
use Rattle.checks.specs.Checks.{any}
use Rattle.checks.proofs.Anys.{any_empty, any-one, any_is, is_any, none_is, is_none}
use Rattle.board.specs.declared.entries.Entry.{Entry}
use Rattle.board.specs.declared.superseding.Placed.{Placed}
use Rattle.board.specs.Superseding.{placed, supersedes, survives}
use Rattle.board.specs.Board.{entry_not_finite}
use Rattle.board.specs.Rules.{of_satellite}
use Rattle.common.proofs.Tests.{same_test}
use Rattle.board.proofs.Order.{one_satellite, never_itself, through, either}
use Rattle.board.proofs.Places.{any-placed}

-- one of a list, of the satellite s, that none of the list supersedes
record Unbeaten (s : ℕ) (ps : List Placed) : Type 0 where
  one : Placed
  among : Memᴰ one ps
  of_it : one.entry.satellite ≡ s
  unbeaten : (q : Placed) → Memᴰ q ps → T (supersedes q one) → ⊥

-- what the first has and each of the others has, each has
each : (P : Placed → Type 0) (x : Placed) (ps : List Placed) → P x → ((q : Placed) → Memᴰ q ps → P q) → (q : Placed) → Memᴰ q (x ∷ ps) → P q
each P x ps h r q m = go (Memᴰ.cases_cons m)
  where
    go : (q ≡ x) ⊎ Memᴰ q ps → P q
    go (inl e) = subst P (sym e) h
    go (inr n) = r q n

module _ (s : ℕ) (x : Placed) (ps : List Placed) where
  -- the first one, where none of the others supersedes it
  at_first : x.entry.satellite ≡ s → ((q : Placed) → Memᴰ q ps → T (supersedes q x) → ⊥) → Unbeaten s (x ∷ ps)
  at_first e f = record {
    one = x;
    among = Memᴰ.head refl;
    of_it = e;
    unbeaten = each (λ q. T (supersedes q x) → ⊥) x ps (λ t. T_not (supersedes x x) (never_itself x) t) f;
  }

  -- one found among the others stays, or the first supersedes it
  from-others : Unbeaten s ps → Unbeaten s (x ∷ ps)
  from-others u = go (supersedes x u.one) (λ t. t) (λ t. t)
    where
      go : (v : Bool) → (T v → T (supersedes x u.one)) → (T (supersedes x u.one) → T v) → Unbeaten s (x ∷ ps)
      go true y n = at_first (one_satellite x u.one (y tt) ∙ u.of_it) (λ q m t. u.unbeaten q m (through q x u.one t (y tt)))
      go false y n = record {
        one = u.one;
        among = Memᴰ.tail u.among;
        of_it = u.of_it;
        unbeaten = each (λ q. T (supersedes q u.one) → ⊥) x ps n u.unbeaten;
      }

-- where one is of the satellite, such a one is found
found : (s : ℕ) (ps : List Placed) → T (any (of_satellite s) ps) → Unbeaten s ps
found s [] h = absurd (subst T (any_empty (of_satellite s)) h)
found s (x ∷ ps) h = go (of_satellite s x) (any (of_satellite s) ps) (λ t. t) (λ q m t. is_any (of_satellite s) q ps m t) (subst T (any-one (of_satellite s) x ps) h) (found s ps)
  where
    go : (v w : Bool) → (T v → T (of_satellite s x)) → ((q : Placed) → Memᴰ q ps → T (of_satellite s q) → T w) → T (v || w) → (T w → Unbeaten s ps) → Unbeaten s (x ∷ ps)
    go v true e n h r = from-others s x ps (r tt)
    go true false e n h r =
        let o : x.entry.satellite ≡ s = eqb→eq x.entry.satellite s (e tt) in
        at_first s x ps o (λ q m t. n q m (eq→eqb (one_satellite q x t ∙ o)))
    go false false e n h r = absurd h

-- p stands for the satellite s: it is of it, and none of the list supersedes it
abbrev pub stands : List Placed → ℕ → Placed → Bool
stands ps s p = survives ps p && of_satellite s p

-- one stands for a satellite exactly where one is of it
pub some_stands : (ps : List Placed) (s : ℕ) → any (stands ps s) ps ≡ any (of_satellite s) ps
some_stands ps s = same_test (any (stands ps s) ps) (any (of_satellite s) ps) (λ h. back (any_is (stands ps s) ps h)) (λ h. forth (found s ps h))
  where
    back : (p : Placed) × Memᴰ p ps × T (stands ps s p) → T (any (of_satellite s) ps)
    back r = is_any (of_satellite s) r.0 ps r.1 (and_r (survives ps r.0) (of_satellite s r.0) r.2)

    forth : Unbeaten s ps → T (any (stands ps s) ps)
    forth u =
        is_any (stands ps s) u.one ps u.among
        (and_i (survives ps u.one) (of_satellite s u.one)
        (is_none (λ q. supersedes q u.one) ps (λ q m. not_T (supersedes q u.one) (u.unbeaten q m))) (eq→eqb u.of_it))

module _ (es : List Entry) (f : T (not (any entry_not_finite es))) where
  -- the doubles of each entry are finite
  pub finite_at : (p : Placed) → Memᴰ p (placed es) → T (not (entry_not_finite p.entry))
  finite_at p m = none_is (λ (q : Placed). entry_not_finite q.entry) p (placed es) (subst (λ (b : Bool). T (not b)) (sym (any-placed entry_not_finite 0 es)) f) m

  -- no two places of one satellite survive
  one_place : (p q : Placed) → Memᴰ p (placed es) → Memᴰ q (placed es) → p.entry.satellite ≡ q.entry.satellite
      → T (survives (placed es) p) → T (survives (placed es) q) → p.place ≡ q.place
  one_place p q m n e h k = eqb→eq p.place q.place (go (eqb p.place q.place) (λ c. eq→eqb c))
    where
      clash : T (supersedes p q) ⊎ T (supersedes q p) → ⊥
      clash (inl t) = T_not (supersedes p q) (none_is (λ r. supersedes r q) p (placed es) k m) t
      clash (inr t) = T_not (supersedes q p) (none_is (λ r. supersedes r p) q (placed es) h n) t

      go : (v : Bool) → (p.place ≡ q.place → T v) → T v
      go true c = tt
      go false c = clash (either p q e (finite_at p m) (finite_at q n) c)

  -- nor two that stand for it
  pub stands_once : (s : ℕ) (p q : Placed) → Memᴰ p (placed es) → Memᴰ q (placed es) → T (stands (placed es) s p) → T (stands (placed es) s q) → p.place ≡ q.place
  stands_once s p q m n h k = one_place p q m n (of_it p h ∙ sym (of_it q k)) (and_l (survives (placed es) p) (of_satellite s p) h) (and_l (survives (placed es) q) (of_satellite s q) k)
    where
      of_it : (p : Placed) → T (stands (placed es) s p) → p.entry.satellite ≡ s
      of_it p h = eqb→eq p.entry.satellite s (and_r (survives (placed es) p) (of_satellite s p) h)
