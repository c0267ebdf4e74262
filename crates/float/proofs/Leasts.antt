-- Which orders of doubles are comparisons, as the law of the search for the first of the best wants them: the least of what counts, and the greatest. A NaN is below
-- nothing and nothing is below it. Assumes nothing.
use Rattle.std.proofs.Common.{Bool, true, false, not, ◌&&◌, T, T_not}
use lib.Dec.{not_T}
use lib.Ieee.{Float, lt}
use lib.Ieee.Fits.{and_l, and_r, and_i}
use Rattle.common.specs.Search.{Comparison}
use Rattle.float.proofs.Comparison.{number, lt_left, lt_right, lt_asym, lt_past, lt_trans}

-- the test failed though its first part holds
pub and_not : (a b : Bool) → T (not (a && b)) → T a → T (not b)
and_not true b h k = h
and_not false b h k = absurd k

never_below_itself : (x : Float) → T (not (lt x x))
never_below_itself x = not_T (lt x x) (λ h. T_not (lt x x) (lt_asym x x h) h)

-- y is below x, and z, a number, is not above y: z is below x
lt_before : (x y z : Float) → T (lt y x) → T (number z) → T (not (lt y z)) → T (lt z x)
lt_before x y z h n k = go (lt z x) (λ u. lt_past y x z h n u)
  where
    go : (v : Bool) → (T (not v) → T (lt y z)) → T v
    go true f = tt
    go false f = absurd (T_not (lt y z) k (f tt))

module _ {A : Type 0} (counts : A → Bool) (key : A → Float) where
  -- the least: what counts and is below
  pub least_first : Comparison (λ x y. counts x && lt (key x) (key y))
  least_first = record {
    never_itself = λ x. not_T (counts x && lt (key x) (key x)) (λ h. T_not (lt (key x) (key x)) (never_below_itself (key x)) (and_r (counts x) (lt (key x) (key x)) h));
    through = λ x y z h l. and_i (counts x) (lt (key x) (key z)) (and_l (counts x) (lt (key x) (key y)) h) (lt_trans (key x) (key y) (key z) (and_r (counts x) (lt (key x) (key y)) h) (and_r (counts y) (lt (key y) (key z)) l));
    past = λ x y z c h l m.
        and_i (counts x) (lt (key x) (key z)) (and_l (counts x) (lt (key x) (key y)) h)
        (lt_past (key x) (key y) (key z) (and_r (counts x) (lt (key x) (key y)) h) (lt_left (key z) (key c) (and_r (counts z) (lt (key z) (key c)) l))
        (and_not (counts z) (lt (key z) (key y)) m (and_l (counts z) (lt (key z) (key c)) l)));
  }

-- the greatest: what the other is below
pub greatest_first : {A : Type 0} (key : A → Float) → Comparison (λ x y. lt (key y) (key x))
greatest_first key = record {
  never_itself = λ x. never_below_itself (key x);
  through = λ x y z h l. lt_trans (key z) (key y) (key x) l h;
  past = λ x y z c h l m. lt_before (key x) (key y) (key z) h (lt_right (key c) (key z) l) m;
}
