-- By the window's evenness, which decides whose inverse is taken; the times are those of the window. Assumes nothing.
use mathlib.Core.Path.{sym, ap, ◌∙◌}
use mathlib.Core.List.{List}
use lib.Ieee.{Float}
use Rattle.orbit.specs.Window.{inversion_of, model_or}
use Rattle.orbit.proofs.Models.{uneven_is, even_is}
use Rattle.orbit.proofs.window.Window.model.Goals as goal

pub returns-then-is_uneven : goal.returns-then-is_uneven
returns-then-is_uneven c =
    let w = c.args.self.now in
    let ps = w.orbit.now.table.positions.now in
    uneven_is w.orbit.now.tolerance c.seconds-t.result ps w.start _ _ _ c.axis.ensures c.axis-then-is_uneven.ensures c.axis-then-is_uneven-2.ensures c.nodes_of.result c.in_ok-cx.field-0
    (sym c.is_uneven.ensures ∙ c.if-is_uneven.true) c.nodes_of.ensures c.in_ok-cx.ensures
    ∙ ap (λ (t : List Float). model_or (inversion_of w.orbit.now.tolerance t) t ps w.start) c.seconds-t.ensures

pub returns : goal.returns
returns c =
    let w = c.args.self.now in
    let ps = w.orbit.now.table.positions.now in
    even_is w.orbit.now.tolerance c.seconds-t.result ps w.start _ _ _ c.axis-2.ensures c.axis-3.ensures c.axis-4.ensures _ _ _
    (sym c.is_uneven.ensures ∙ c.if-is_uneven.false) c.ideal_coefficients.ensures c.ideal_coefficients-2.ensures c.ideal_coefficients-3.ensures
    ∙ ap (λ (t : List Float). model_or (inversion_of w.orbit.now.tolerance t) t ps w.start) c.seconds-t.ensures
