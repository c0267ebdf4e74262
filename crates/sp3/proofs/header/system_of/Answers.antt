-- `nth` gives line 13, or nothing where there are fewer. Assumes nothing.
use Rattle.std.proofs.Common.{◌≡◌, ℕ, List, [], Option, Bor, get_or, refl, ap, ◌∙◌}
use Rattle.std.specs.Option.{option_map, unwrap_or}
use Rattle.std.proofs.lemmas.Iterator.Consumers.{YieldsList-from_first, nth_from_yields_List}
use Rattle.std.proofs.lemmas.Option.{unwrap_or-slice_get}
use Rattle.std.specs.List.{slice_get}
use Rattle.sp3.specs.Lines.{lines}
use Rattle.sp3.specs.Header.{system_in}
use Rattle.sp3.proofs.header.system_of.Goals as goal

-- line 13 by what `nth` gives
line_13 : (bs : List ℕ) (r : Option (Bor (List ℕ))) → option_map (λ x. x.now) r ≡ slice_get (lines bs) 12 → unwrap_or (option_map (λ x. x.now) r) [] ≡ get_or (lines bs) 12 []
line_13 bs r e = ap (λ (o : Option (List ℕ)). unwrap_or o []) e ∙ unwrap_or-slice_get (lines bs) 12 []

pub returns-in-Some : goal.returns-in-Some
returns-in-Some c =
    let n = nth_from_yields_List c.nth.result c.nth.new.self 12 c.nth.ensures.ran (YieldsList-from_first (λ x. x.now) (λ s. lines s.0.now) (lines c.args.bytes.now) refl) in
    c.system_in.ensures ∙ ap (system_in c.args.leap_seconds) (rw c.in-Some.is at (line_13 c.args.bytes.now c.nth.result n))

pub returns-in-None : goal.returns-in-None
unfolding system_in
returns-in-None c =
    let n = nth_from_yields_List c.nth.result c.nth.new.self 12 c.nth.ensures.ran (YieldsList-from_first (λ x. x.now) (λ s. lines s.0.now) (lines c.args.bytes.now) refl) in
    ap (system_in c.args.leap_seconds) (rw c.in-None.is at (line_13 c.args.bytes.now c.nth.result n))
