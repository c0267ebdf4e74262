-- The gaps so far were wide, or else the rest decides; a wide gap settles it. Assumes nothing.
use mathlib.Core.Path.{◌≡◌, refl, sym, ap, ap₂, ◌∙◌}
use mathlib.Core.Bool.{Bool, ◌||◌, or-false}
use Prim.Native.Nat.{ℕ, ◌+◌, ◌-◌}
use native.Mathlib.Omega.{arith}
use lib.ListN.{length, get_or}
use lib.Ieee.{Float, lt, nan, of_bits}
use Rattle.std.proofs.lemmas.Iterator.{window_more}
use Rattle.std.specs.Slice.Iter.{windows_rest}
use Rattle.float.specs.Signs.{magnitude_of}
use Rattle.common.specs.Numbers.{nine}
use Rattle.common.specs.Rounded.{◌⊖◌, ◌⊘◌}
use Rattle.orbit.specs.Window.{first_time, last_time, wide_gap}
use Rattle.orbit.proofs.Models.{wide_more, wide_end}
use borrow.Author.Rules.{rules}
use Rattle.orbit.proofs.window.is_uneven.Goals as goal

pub loop-pair-init : goal.loop-pair-init
unfolding of_bits
loop-pair-init c =
    let t = c.args.t in
    let rest = windows_rest c.into_iter-pair-iterator.result in
    let same : rest ≡ t = search rules in
    let none : length t - length rest ≡ 0 = rw same (omega arith) in
    record { ten = search rules; pairs = search rules; inside = rw same (omega arith); rest_is = rw none same; gap_is = refl; found = rw none refl }

pub loop-pair-preserved : goal.loop-pair-preserved
unfolding of_bits
loop-pair-preserved c =
    let at = c.loop-pair in
    let it = at.invariant in
    let t = c.args.t in
    let k = length t - length (windows_rest at.pair-iterator) in
    let more = window_more t _ _ _ _ c.in-Some.is c.next.ensures.steps (omega (arith, it.pairs)) it.inside it.rest_is in
    let now : length t - length (windows_rest c.next.new.self) ≡ k + 1 = omega (arith, more.0, it.inside, more.2, it.pairs) in
    let here : k + 0 ≡ k = omega arith in
    let wide : wide_gap c.args.tolerance t k ≡ lt c.args.tolerance.0 c.magnitude.result =
    sym (ap (lt c.args.tolerance.0) (c.magnitude.ensures
    ∙ ap₂ (λ (a b : Float). magnitude_of (a ⊖ b ⊖ (last_time t ⊖ first_time t) ⊘ nine)) (more.3 1 nan (omega (arith, it.pairs)))
    (more.3 0 nan (omega (arith, it.pairs)) ∙ ap (λ (j : ℕ). get_or t j nan) here))) in
    record {
      ten = it.ten;
      pairs = search rules;
      inside = omega (arith, more.0, it.inside);
      rest_is = more.1;
      gap_is = refl;
      found = rw now (wide_more c.args.tolerance t k at.uneven _ (omega (arith, more.2, it.pairs, it.ten, it.inside)) wide ∙ it.found);
    }

pub returns : goal.returns
unfolding of_bits
returns c =
    let at = c.loop-pair in
    let it = at.invariant in
    let t = c.args.t in
    let k = length t - length (windows_rest at.pair-iterator) in
    sym (or-false at.uneven) ∙ ap (λ (b : Bool). at.uneven || b) (sym (wide_end c.args.tolerance t k (omega (arith, c.in-None.ensures.steps, it.pairs, it.ten)))) ∙ it.found
