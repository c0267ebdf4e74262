-- A position is stored in one place and in three, and a line with no record stores nothing. Assumes nothing.
use Rattle.std.proofs.Common.{◌≡◌, ◌*◌, ℤ, List, [], ◌∷◌, sym, ap, refl, ◌∙◌, rules, arith}
use Rattle.units.specs.declared.Position.{Position}
use Rattle.sp3.specs.declared.line.Line.{Line}
use Rattle.sp3.specs.declared.line.Line.TheVariants.{Epoch, Located, Absent, Wrong, PassedOver}
use Rattle.sp3.specs.Walks.{put_at}
use Rattle.sp3.specs.Records.{Kept, kept_of, instants_of, positions_of}
use Rattle.common.proofs.Parts.{back}
use Rattle.sp3.proofs.Areas.{put_none, one, three}
use Rattle.sp3.proofs.records.put.Goals as goal

no_record : (l : Line) (t : ℤ) → ((p : Position) → l ≡ Located p → ⊥) → kept_of l t ≡ []
no_record (Epoch u) t h = refl
no_record (Located p) t h = absurd (h p refl)
no_record Absent t h = refl
no_record Wrong t h = refl
no_record PassedOver t h = refl

pub returns-in_default : goal.returns-in_default
unfolding positions_of
returns-in_default c =
    let a = c.args in
    let e = no_record a.l a.t.0 c.in_default.not-Located in
    record {
      instants = sym (ap (λ (K : List Kept). put_at a.place (instants_of K) a.areas.now.instants.now) e ∙ put_none a.place a.areas.now.instants.now);
      numbers = sym (ap (λ (K : List Kept). put_at (3 * a.place) (positions_of K) a.areas.now.numbers.now) e ∙ put_none (3 * a.place) a.areas.now.numbers.now);
      same = record { instants = refl; numbers = refl };
    }

pub returns-in-Located : goal.returns-in-Located
unfolding positions_of
returns-in-Located c =
    let a = c.args in
    let old = a.areas.now in
    let p = c.in-Located.p in
    let e : kept_of a.l a.t.0 ≡ record { instant = a.t.0; position = p } ∷ [] = ap (λ (l : Line). kept_of l a.t.0) c.in-Located.is in
    record {
      instants =
          let first : lib.ListN.set old.instants.now a.place (back a.t.0) ≡ put_at a.place (a.t.0 ∷ []) old.instants.now = search (rules, one) in
          first ∙ sym (ap (λ (K : List Kept). put_at a.place (instants_of K) old.instants.now) e);
      numbers =
          three old.numbers.now _ (3 * a.place) _ p.x p.y p.z c.copy_from_slice.ensures.after (omega arith)
          ∙ sym (ap (λ (K : List Kept). put_at (3 * a.place) (positions_of K) old.numbers.now) e);
      same = record { instants = refl; numbers = refl };
    }
