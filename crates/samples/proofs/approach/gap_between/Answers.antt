-- What is rounded is the definition's count of milliseconds. Assumes nothing.
use Rattle.std.proofs.Common.{ap, ◌∙◌, w64}
use mir.ValLaws.{to_z-of_z}
use lib.Ieee.{Float, binary64, div, of_bits}
use Rattle.float.specs.Conversions.{nearest_of}
use Rattle.common.specs.Numbers.{thousand}
use Rattle.samples.proofs.approach.gap_between.Goals as goal

pub returns : goal.returns
unfolding of_bits
returns c =
    let count = c.milliseconds_between in
    ap (λ (x : Float). div binary64 x thousand)
    (c.nearest.ensures ∙ ap nearest_of (to_z-of_z w64 count.result (record { sfits = count.type_inv }) ∙ count.ensures))
