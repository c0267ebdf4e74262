-- Each entry is judged at its place; at the end none is left, and the count is that of the survivors. Assumes nothing.
use Rattle.std.proofs.Common.{◌≡◌, ◌<◌, sym, ap, ◌∙◌, length, arith, w64}
use mir.ValLaws.{to_z_pos}
use lib.Ieee.{Float}
use Rattle.common.specs.Rounded.{◌⊘◌}
use Rattle.float.specs.Conversions.{nearest_of}
use Rattle.board.proofs.Tallies.{kept_tallied, passed-tallied, all_tallied}
use Rattle.board.proofs.fleet.mean_of_survivors.Goals as goal
use Rattle.board.proofs.fleet.mean_of_survivors.Goals.{then-not-is_superseded, else-not-is_superseded}

pub loop-place-preserved : goal.loop-place-preserved
loop-place-preserved c =
    let es = c.args.entries.now in
    let t = c.loop-place.invariant in
    let l : c.loop-place.place < length es = omega arith in
    elim c.if-not-is_superseded.branch [
      | then-not-is_superseded w ↦ rw (w.sum-is, w.survivors-is) (kept_tallied es _ _ _ t l (sym c.is_superseded.ensures ∙ w.if-not-is_superseded.true))
      | else-not-is_superseded w ↦ rw (w.sum-is, w.survivors-is) (passed-tallied es _ _ _ t l (sym c.is_superseded.ensures ∙ w.if-not-is_superseded.false))
    ]

pub returns : goal.returns
returns c =
    let es = c.args.entries.now in
    let n = c.loop-place.survivors in
    let end : c.loop-place.place ≡ length es = omega (arith, c.loop-place.invariant.within) in
    ap (λ (x : Float). c.loop-place.sum ⊘ x) (c.nearest.ensures ∙ ap nearest_of (to_z_pos w64 n (omega (arith, c.loop-place.invariant.fewer, c.requires))))
    ∙ all_tallied es c.loop-place.sum n (rw (← end) c.loop-place.invariant)
