-- Superseding is a strict order on the places of one satellite. It compares three things one after the other: the instants, where they are equal the RMSEs, and where these are equal too the
-- places. Each of the first two is an order with an equality that keeps to it, so that what follows decides only among equals: then the whole is an order if what follows is one, and tells any
-- two apart if what follows does. Assumes nothing.
use mathlib.Core.Path.{◌≡◌, refl, sym, subst, ◌∙◌}
use mathlib.Core.Bool.{Bool, true, false, not, ◌&&◌, ◌||◌}
use mathlib.Core.Logic.{◌⊎◌, inl, inr}
use native.Mathlib.Omega.{arith}
use Prim.Native.Nat.{◌≤◌}
use lib.Dec.{T, T_not, not_T, eqb→eq, ltb→lt, lt→ltb, nltb→le}
use lib.IntN.{ℤ}
use lib.Signed.{lt_z}
use lib.Ieee.{Float}
use lib.Ieee.Fits.{and_l, and_r, and_i, eq→eqb}
use Rattle.common.proofs.Integers.{eq_z→eq, eq→eq_z}
use Rattle.common.proofs.Parts.{lt_apart, lt_through, neither_lt}
use Rattle.float.proofs.Comparison.{number, lt_asym, lt_trans, lt_eq, eq_lt, or_of, eq_of, eq_sym, eq_trans}
use Rattle.checks.specs.Checks.{not_finite}
use Rattle.checks.proofs.Finite.{finite_number}
use Rattle.board.specs.declared.entries.Entry.{Entry}
use Rattle.board.specs.declared.superseding.Placed.{Placed}
use Rattle.board.specs.Superseding.{same_satellite, later, same_instant, smaller_rmse, same_rmse, nearer_front, supersedes}
use Rattle.board.specs.Board.{entry_not_finite}

-- ---- one comparison, and behind it another that decides among equals

-- a comparison, below, and an equality, same, that keeps to it
record Grade (below same : Placed → Placed → Bool) : Type 0 where
  never : (p : Placed) → T (not (below p p))
  below_below : (p q r : Placed) → T (below p q) → T (below q r) → T (below p r)
  below_same : (p q r : Placed) → T (below p q) → T (same q r) → T (below p r)
  same_below : (p q r : Placed) → T (same p q) → T (below q r) → T (below p r)
  same-same : (p q r : Placed) → T (same p q) → T (same q r) → T (same p r)
  turned : (p q : Placed) → T (same p q) → T (same q p)

-- how the test `b || s && n` passes: by b, or among equals, which s says, by what follows, n
data First (b s n : Bool) : Type 0 where
  by_first : T b → First b s n
  by_next : T s → T n → First b s n

first : (b s n : Bool) → T (b || s && n) → First b s n
first true s n h = by_first tt
first false true n h = by_next tt h
first false false n h = absurd h

tested : {b s n : Bool} → First b s n → T (b || s && n)
tested {b = true} f = tt
tested {b = false} {s} {n} (by_first h) = absurd h
tested {b = false} {s} {n} (by_next e h) = and_i s n e h

module _ (below same next : Placed → Placed → Bool) where
  -- the comparison, and among equals what follows
  abbrev then_by : Placed → Placed → Bool
  then_by p q = below p q || same p q && next p q

  cases : (p q : Placed) → T (then_by p q) → First (below p q) (same p q) (next p q)
  cases p q h = first (below p q) (same p q) (next p q) h

  -- none is before itself if what follows puts none before itself
  not_itself : Grade below same → (p : Placed) → T (not (next p p)) → T (not (then_by p p))
  not_itself g p h = not_T (then_by p p) (λ t. go (cases p p t))
    where
      go : First (below p p) (same p p) (next p p) → ⊥
      go (by_first t) = T_not (below p p) (g.never p) t
      go (by_next e t) = T_not (next p p) h t

  -- it goes on from one to the next if what follows does
  goes_through : Grade below same → (p q r : Placed) → (T (next p q) → T (next q r) → T (next p r)) → T (then_by p q) → T (then_by q r) → T (then_by p r)
  goes_through g p q r n h k = tested (go (cases p q h) (cases q r k))
    where
      go : First (below p q) (same p q) (next p q) → First (below q r) (same q r) (next q r) → First (below p r) (same p r) (next p r)
      go (by_first h) (by_first k) = by_first (g.below_below p q r h k)
      go (by_first h) (by_next e k) = by_first (g.below_same p q r h e)
      go (by_next e h) (by_first k) = by_first (g.same_below p q r e k)
      go (by_next e h) (by_next f k) = by_next (g.same-same p q r e f) (n h k)

  -- it tells two apart if what follows does, where those of which neither is below the other are the same
  tells : Grade below same → (p q : Placed) → (T (not (below p q)) → T (not (below q p)) → T (same p q)) → T (next p q) ⊎ T (next q p) → T (then_by p q) ⊎ T (then_by q p)
  tells g p q e n = go (below p q) (below q p) e n
    where
      go : (v w : Bool) → (T (not v) → T (not w) → T (same p q)) → T (next p q) ⊎ T (next q p) → T (v || same p q && next p q) ⊎ T (w || same q p && next q p)
      go true w e n = inl tt
      go false true e n = inr tt
      go false false e (inl h) = inl (and_i (same p q) (next p q) (e tt tt) h)
      go false false e (inr h) = inr (and_i (same q p) (next q p) (g.turned p q (e tt tt)) h)

-- ---- the two comparisons

abbrev instant_of : Placed → ℤ
instant_of p = p.entry.instant.0

abbrev rmse_of : Placed → Float
rmse_of p = p.entry.rmse.0

-- the instants, the later one first
instants : Grade later same_instant
instants = record {
  never = λ p. not_T (later p p) (λ h. lt_apart (instant_of p) (instant_of p) h refl);
  below_below = λ p q r h k. lt_through (instant_of r) (instant_of q) (instant_of p) k h;
  below_same = λ p q r h e. subst (λ (z : ℤ). T (lt_z z (instant_of p))) (eq_z→eq (instant_of q) (instant_of r) e) h;
  same_below = λ p q r e h. subst (λ (z : ℤ). T (lt_z (instant_of r) z)) (sym (eq_z→eq (instant_of p) (instant_of q) e)) h;
  same-same = λ p q r e f. eq→eq_z (instant_of p) (instant_of r) (eq_z→eq (instant_of p) (instant_of q) e ∙ eq_z→eq (instant_of q) (instant_of r) f);
  turned = λ p q e. eq→eq_z (instant_of q) (instant_of p) (sym (eq_z→eq (instant_of p) (instant_of q) e));
}

-- the RMSEs, the smaller one first
rmses : Grade smaller_rmse same_rmse
rmses = record {
  never = λ p. not_T (smaller_rmse p p) (λ h. T_not (smaller_rmse p p) (lt_asym (rmse_of p) (rmse_of p) h) h);
  below_below = λ p q r h k. lt_trans (rmse_of p) (rmse_of q) (rmse_of r) h k;
  below_same = λ p q r h e. lt_eq (rmse_of p) (rmse_of q) (rmse_of r) h e;
  same_below = λ p q r e h. eq_lt (rmse_of p) (rmse_of q) (rmse_of r) e h;
  same-same = λ p q r e f. eq_trans (rmse_of p) (rmse_of q) (rmse_of r) e f;
  turned = λ p q e. eq_sym (rmse_of p) (rmse_of q) e;
}

-- ---- the three, one after the other

-- between entries of one satellite at equal instants
abbrev by_rmse : Placed → Placed → Bool
by_rmse = then_by smaller_rmse same_rmse nearer_front

-- between entries of one satellite
abbrev by_instant : Placed → Placed → Bool
by_instant = then_by later same_instant by_rmse

-- only an entry of the same satellite supersedes
pub one_satellite : (p q : Placed) → T (supersedes p q) → p.entry.satellite ≡ q.entry.satellite
unfolding supersedes
one_satellite p q h = eqb→eq p.entry.satellite q.entry.satellite (and_l (same_satellite p q) (by_instant p q) h)

-- none supersedes itself
pub never_itself : (p : Placed) → T (not (supersedes p p))
unfolding supersedes
never_itself p = not_T (same_satellite p p && by_instant p p) (λ h. T_not (by_instant p p) no_instant (and_r (same_satellite p p) (by_instant p p) h))
  where
    no_place : T (not (nearer_front p p))
    no_place = not_T (nearer_front p p) (λ h. omega (arith, ltb→lt p.place p.place h))

    no_instant : T (not (by_instant p p))
    no_instant = not_itself later same_instant by_rmse instants p (not_itself smaller_rmse same_rmse nearer_front rmses p no_place)

-- what supersedes a superseding one supersedes what that does
pub through : (p q r : Placed) → T (supersedes p q) → T (supersedes q r) → T (supersedes p r)
unfolding supersedes
through p q r h k =
    and_i (same_satellite p r) (by_instant p r) (eq→eqb (one_satellite p q h ∙ one_satellite q r k))
    (goes_through later same_instant by_rmse instants p q r rmse-through (and_r (same_satellite p q) (by_instant p q) h) (and_r (same_satellite q r) (by_instant q r) k))
  where
    place-through : T (nearer_front p q) → T (nearer_front q r) → T (nearer_front p r)
    place-through h k = lt→ltb p.place r.place (omega (arith, ltb→lt p.place q.place h, ltb→lt q.place r.place k))

    rmse-through : T (by_rmse p q) → T (by_rmse q r) → T (by_rmse p r)
    rmse-through = goes_through smaller_rmse same_rmse nearer_front rmses p q r place-through

-- of two, not both supersede the other
pub not_both : (p q : Placed) → T (supersedes p q) → T (not (supersedes q p))
not_both p q h = not_T (supersedes q p) (λ k. T_not (supersedes p p) (never_itself p) (through p q p h k))

-- the RMSE of an entry whose doubles are finite is a number
number_of : (e : Entry) → T (not (entry_not_finite e)) → T (number e.rmse.0)
number_of e h =
    finite_number e.rmse.0 (not_T (not_finite e.rmse.0) (λ t. T_not (entry_not_finite e) h
    (or_of (not_finite e.clock_offset.0 || not_finite e.frequency_offset.0) (not_finite e.rmse.0) (λ n. t))))

-- of two places of one satellite, one supersedes the other
pub either : (p q : Placed) → p.entry.satellite ≡ q.entry.satellite → T (not (entry_not_finite p.entry)) → T (not (entry_not_finite q.entry))
    → (p.place ≡ q.place → ⊥) → T (supersedes p q) ⊎ T (supersedes q p)
unfolding supersedes
either p q e f g n = one_of (tells later same_instant by_rmse instants p q same-instants (tells smaller_rmse same_rmse nearer_front rmses p q same_rmses places))
  where
    same-instants : T (not (later p q)) → T (not (later q p)) → T (same_instant p q)
    same-instants h k = eq→eq_z (instant_of p) (instant_of q) (neither_lt (instant_of p) (instant_of q) k h)

    same_rmses : T (not (smaller_rmse p q)) → T (not (smaller_rmse q p)) → T (same_rmse p q)
    same_rmses = eq_of (rmse_of p) (rmse_of q) (number_of p.entry f) (number_of q.entry g)

    places : T (nearer_front p q) ⊎ T (nearer_front q p)
    places = go (nearer_front p q) (nltb→le p.place q.place)
      where
        go : (v : Bool) → (T (not v) → q.place ≤ p.place) → T v ⊎ T (nearer_front q p)
        go true h = inl tt
        go false h = inr (lt→ltb q.place p.place (omega (arith, h tt)))

    one_of : T (by_instant p q) ⊎ T (by_instant q p) → T (same_satellite p q && by_instant p q) ⊎ T (same_satellite q p && by_instant q p)
    one_of (inl h) = inl (and_i (same_satellite p q) (by_instant p q) (eq→eqb e) h)
    one_of (inr h) = inr (and_i (same_satellite q p) (by_instant q p) (eq→eqb (sym e)) h)
