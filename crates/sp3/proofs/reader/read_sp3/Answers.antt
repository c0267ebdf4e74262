-- What stands behind the header are the lines that the definition drops the header's from, so the look and the walk see what the definition sees.
-- A refusal is the first in order and leaves both areas; without one the look found room, and the walk writes the records that it counted.
-- Assumes nothing.
use Rattle.std.proofs.Common.{rules, arith, ◌≡◌, ℕ, List, Option, None, Result, Ok, Err, Bor, length, sym, ap, ◌∙◌}
use Rattle.std.specs.Option.{ok_or}
use Rattle.std.specs.Result.{IsErrAnd}
use Rattle.std.proofs.lemmas.Option.{same_Some}
use Rattle.common.specs.declared.refusal.Refusal.{Refusal}
use Rattle.common.specs.declared.refusal.Refusal.TheVariants.{Undescribed}
use Rattle.common.specs.Outcome.{refused, outcome, written, area}
use Rattle.common.specs.Refusals.{number_of, refusal_of, told}
use Rattle.common.proofs.Outcomes.{outcome-refused, area-refused}
use Rattle.sp3.specs.Records.{Kept, instants_of, positions_of}
use Rattle.sp3.specs.Entries.{records_of, sp3_refusal}
use Rattle.sp3.specs.Walks.{said_in, refusal_by}
use Rattle.sp3.proofs.Answered.{passed, not_headed, records_same, refusal-same, some_number}
use Rattle.sp3.proofs.reader.read_sp3.Goals as goal

-- an error whose number is the definition's refusal
refused_as : (r : Result ℕ Refusal) (e : Refusal) (m k : ℕ) → IsErrAnd r (λ x. x ≡ e) → number_of e ≡ m → told (λ n. n) r ≡ outcome m k
refused_as (Ok n) e m k h f = absurd h
refused_as (Err x) e m k h f = ap (λ (y : Refusal). refused (number_of y)) h ∙ outcome-refused (number_of e) m k f (some_number e)

undescribed : (o : Option (Bor (List ℕ))) (x : Refusal) → o ≡ None → Err x ≡ ok_or o Undescribed → number_of x ≡ 11
undescribed o x e f = ap refusal_of f ∙ ap (λ (p : Option (Bor (List ℕ))). refusal_of (ok_or p Undescribed)) e

pub returns-in_err-body : goal.returns-in_err-body
returns-in_err-body c =
    let a = c.args in
    let bs = a.bytes.now in
    let is = a.instants.now in
    let ps = a.positions.now in
    let K = records_of bs a.satellite a.leap_seconds in
    let m = sp3_refusal bs a.satellite a.leap_seconds is ps in
    let e = c.in_err-body.field-0.0 in
    let f : number_of e ≡ m =
    undescribed c.body_of.result e c.in_err-body.ensures.ok_part c.in_err-body.ensures.value
    ∙ not_headed bs a.satellite a.leap_seconds is ps (rw c.in_err-body.ensures.ok_part at c.body_of.ensures) in
    record {
      result_value = refused_as c.from_residual.result e m (length K) c.from_residual.ensures.1 f;
      instants_after = area-refused (number_of e) m (instants_of K) is f (some_number e);
      positions_after = area-refused (number_of e) m (positions_of K) ps f (some_number e);
    }

pub returns-in_err-count : goal.returns-in_err-count
returns-in_err-count c =
    let a = c.args in
    let bs = a.bytes.now in
    let is = a.instants.now in
    let ps = a.positions.now in
    let K = records_of bs a.satellite a.leap_seconds in
    let m = sp3_refusal bs a.satellite a.leap_seconds is ps in
    let e = c.in_err-count.field-0.0 in
    let body = rw c.in_ok-body.ensures.ok_part at c.body_of.ensures in
    let f : number_of e ≡ m =
    c.in_err-count.ensures.refusal
    ∙ ap (λ (o : Option ℕ). refusal_by c.system_of.result o is ps) c.look_over.ensures
    ∙ refusal-same bs a.satellite a.leap_seconds c.in_ok-body.body.now c.system_of.result c.system_of.ensures body.1 is ps body.0 in
    record {
      result_value = refused_as c.from_residual-in_err-count.result e m (length K) c.from_residual-in_err-count.ensures.1 f;
      instants_after = area-refused (number_of e) m (instants_of K) is f (some_number e);
      positions_after = area-refused (number_of e) m (positions_of K) ps f (some_number e);
    }

pub write_records-requires : goal.write_records-requires
write_records-requires c =
    let a = c.args in
    let z = sym (c.in_ok-count.ensures.refusal ∙ ap (λ (o : Option ℕ). refusal_by c.system_of.result o a.instants.now a.positions.now) c.look_over.ensures) in
    let p = passed c.system_of.result (said_in c.system_of.result a.satellite c.in_ok-body.body.now) a.instants.now a.positions.now z in
    record { room = record { instants = omega (arith, p.0); numbers = omega (arith, p.1) } }

pub returns : goal.returns
returns c =
    let a = c.args in
    let bs = a.bytes.now in
    let is = a.instants.now in
    let ps = a.positions.now in
    let K = records_of bs a.satellite a.leap_seconds in
    let body = rw c.in_ok-body.ensures.ok_part at c.body_of.ensures in
    let rest = c.in_ok-body.body.now in
    let system = c.system_of.result in
    let z = c.in_ok-count.ensures.refusal ∙ ap (λ (o : Option ℕ). refusal_by system o is ps) c.look_over.ensures in
    let p = passed system (said_in system a.satellite rest) is ps (sym z) in
    let same = records_same bs a.satellite a.leap_seconds rest system c.system_of.ensures body.1 in
    let none = z ∙ refusal-same bs a.satellite a.leap_seconds rest system c.system_of.ensures body.1 is ps body.0 in
    let many = same_Some _ _ (sym c.in_ok-count.ensures.value ∙ c.look_over.ensures ∙ p.2) in
    let w = c.write_records.ensures in
    let ei = w.instants ∙ ap (λ (J : List Kept). written (instants_of J) is) same ∙ ap (λ (v : ℕ). area v (instants_of K) is) none in
    let ep = w.numbers ∙ ap (λ (J : List Kept). written (positions_of J) ps) same ∙ ap (λ (v : ℕ). area v (positions_of K) ps) none in
    let si = w.same.instants in
    let sp = w.same.numbers in
    record {
      result_value = ap (outcome 0) (many ∙ ap length same) ∙ ap (λ (v : ℕ). outcome v (length K)) none;
      instants_after = search (rules, ei, si);
      positions_after = grind (arith, ep, sp);
    }
