-- From what the look found to the entry's refusal, its answer and the areas. Assumes nothing.
use mathlib.Core.Path.{◌≡◌, refl, sym, ap, ◌∙◌}
use mathlib.Core.Bool.{Bool, true, false, cond, not, ◌||◌, true≢false}
use mathlib.Core.List.{List, map}
use Prim.Native.Nat.{ℕ, ◌*◌, ◌≤◌}
use native.Mathlib.Omega.{arith}
use lib.Dec.{eqb, ltb}
use lib.IntN.{ℤ, pos}
use lib.ListN.{length, drop}
use lib.Ieee.{Float}
use borrow.Author.Tests.{ltb-false}
use Rattle.common.specs.declared.refusal.Refusal.{Refusal}
use Rattle.common.specs.declared.refusal.Refusal.TheVariants.{Coordinates, Samples, Areas, Instants, Order, Places, Frequencies, Singular}
use Rattle.common.specs.declared.refusal.Refusal.TheVariants.{NoFall, NoShift, Undescribed, TimeSystem as OtherSystem, Records, Entries, NotFinite, Tolerance}
use Rattle.common.specs.Refusals.{number_of}
use Rattle.sp3.specs.declared.line.Line.{Line}
use Rattle.units.specs.declared.LeapSeconds.{LeapSeconds}
use Rattle.sp3.specs.declared.header.TimeSystem.{TimeSystem}
use Rattle.std.proofs.Common.{None, Some}
use Rattle.sp3.specs.Lines.{lines}
use Rattle.sp3.specs.Header.{beginnings, headed, system_of}
use Rattle.sp3.specs.Columns.{line_of}
use Rattle.sp3.specs.Records.{body, faulty, kept}
use Rattle.checks.specs.Limits.{axes}
use Rattle.checks.specs.Entries.{first_failing}
use Rattle.sp3.specs.Entries.{said, is_missing, is_other, unfit, records_of, sp3_refusal}
use Rattle.sp3.specs.Walks.{said_in, looked_at, refusal_by}

-- no refusal has the number 0
pub some_number : (r : Refusal) → number_of r ≡ 0 → ⊥
some_number Coordinates e = omega arith
some_number Samples e = omega arith
some_number Areas e = omega arith
some_number Instants e = omega arith
some_number Order e = omega arith
some_number Places e = omega arith
some_number Frequencies e = omega arith
some_number Singular e = omega arith
some_number NoFall e = omega arith
some_number NoShift e = omega arith
some_number Undescribed e = omega arith
some_number OtherSystem e = omega arith
some_number Records e = omega arith
some_number Entries e = omega arith
some_number NotFinite e = omega arith
some_number Tolerance e = omega arith

-- ---- the refusal by what the look found
module _ (sys : TimeSystem) (S : List Line) (is : List ℤ) (ps : List Float) where
  -- how many are kept, and what is left to refuse behind 11
  abbrev count : ℕ
  count = length (kept (pos 0) S)

  abbrev later : ℕ
  later = cond (is_other sys) 12 (cond (unfit count is ps) 13 0)

  by_faulty : (f : Bool) → refusal_by sys (cond f None (Some count)) is ps ≡ cond f 11 (cond (is_missing sys) 11 later)
  by_faulty true = refl
  by_faulty false = refl

  in_order : (m f : Bool) (r : ℕ) → cond f 11 (cond m 11 r) ≡ cond (m || f) 11 r
  in_order true true r = refl
  in_order true false r = refl
  in_order false true r = refl
  in_order false false r = refl

  pub by_look : refusal_by sys (looked_at S) is ps ≡ cond (is_missing sys || faulty S) 11 later
  by_look = by_faulty (faulty S) ∙ in_order (is_missing sys) (faulty S) later

  fit : (n : ℕ) (b : Bool) → unfit n is ps ≡ b → ◌≡◌ {A = ℕ} (cond b 13 0) 0 → (n ≤ length is) × (axes * n ≤ length ps)
  fit n true e z = absurd (omega arith)
  fit n false e z = go (eqb n 0) (ltb (length is) n) (ltb (length ps) (axes * n)) refl refl e
    where
      go : (a b d : Bool) → ltb (length is) n ≡ b → ltb (length ps) (axes * n) ≡ d → a || b || d ≡ false → (n ≤ length is) × (axes * n ≤ length ps)
      go true b d p q h = absurd (true≢false h)
      go false true d p q h = absurd (true≢false h)
      go false false true p q h = absurd (true≢false h)
      go false false false p q h = (ltb-false (length is) n p, ltb-false (length ps) (axes * n) q)

  -- no refusal: the areas have room, and the number found is that of the records kept
  pub passed : refusal_by sys (looked_at S) is ps ≡ 0 → (count ≤ length is) × (axes * count ≤ length ps) × (looked_at S ≡ Some count)
  passed z = go (faulty S) (is_missing sys) (is_other sys) (sym (by_faulty (faulty S)) ∙ z)
    where
      go : (f m u : Bool) → ◌≡◌ {A = ℕ} (cond f 11 (cond m 11 (cond u 12 (cond (unfit count is ps) 13 0)))) 0
          → (count ≤ length is) × (axes * count ≤ length ps) × (cond f None (Some count) ≡ Some count)
      go false true u z = absurd (omega arith)
      go false false true z = absurd (omega arith)
      go false false false z = let r = fit count (unfit count is ps) refl z in (r.0, r.1, refl)
      go true m u z = absurd (omega arith)

-- ---- of a file
by_header : (bs sat : List ℕ) (leaps : LeapSeconds) (is : List ℤ) (ps : List Float) (h : Bool) → headed beginnings (lines bs) ≡ h
    → (let sys = system_of leaps (lines bs) in let S = said sys sat (lines bs) in
    sp3_refusal bs sat leaps is ps ≡ cond (not h || is_missing sys || faulty S) 11 (later sys S is ps))
unfolding first_failing
by_header bs sat leaps is ps h e =
    let sys = system_of leaps (lines bs) in
    let S = said sys sat (lines bs) in
    ap (λ (y : Bool). cond (not y || is_missing sys || faulty S) 11 (later sys S is ps)) e

pub not_headed : (bs sat : List ℕ) (leaps : LeapSeconds) (is : List ℤ) (ps : List Float) → headed beginnings (lines bs) ≡ false → 11 ≡ sp3_refusal bs sat leaps is ps
not_headed bs sat leaps is ps e = sym (by_header bs sat leaps is ps false e)

module _ (bs sat : List ℕ) (leaps : LeapSeconds) (rest : List ℕ) (sys : TimeSystem) (es : sys ≡ system_of leaps (lines bs)) (el : lines rest ≡ drop 22 (lines bs)) where
  said_same : said_in sys sat rest ≡ said (system_of leaps (lines bs)) sat (lines bs)
  said_same = ap (λ (ls : List (List ℕ)). map (line_of sys sat) (body ls)) el ∙ ap (λ (y : TimeSystem). said y sat (lines bs)) es

  pub records_same : kept (pos 0) (said_in sys sat rest) ≡ records_of bs sat leaps
  records_same = ap (kept (pos 0)) said_same

  pub refusal-same : (is : List ℤ) (ps : List Float) → headed beginnings (lines bs) ≡ true → refusal_by sys (looked_at (said_in sys sat rest)) is ps ≡ sp3_refusal bs sat leaps is ps
  refusal-same is ps h =
      ap (λ (S : List Line). refusal_by sys (looked_at S) is ps) said_same
      ∙ ap (λ (y : TimeSystem). refusal_by y (looked_at (said (system_of leaps (lines bs)) sat (lines bs))) is ps) es
      ∙ by_look (system_of leaps (lines bs)) (said (system_of leaps (lines bs)) sat (lines bs)) is ps
      ∙ sym (by_header bs sat leaps is ps true h)
