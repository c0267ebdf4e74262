-- The faults of all lines, found one line after the other: a line is wrong by itself, or it is a P line and no epoch line stood before it. Once one
-- has stood, only the first can be. Assumes nothing.
use mathlib.Core.Path.{◌≡◌, refl, sym, ◌∙◌}
use mathlib.Core.Bool.{true, false, or-true, or-false}
use mathlib.Core.List.{List, [], ◌∷◌}
use Rattle.checks.specs.Checks.{any}
use Rattle.sp3.specs.declared.line.Line.{Line}
use Rattle.sp3.specs.declared.line.Line.TheVariants.{Epoch, Located, Absent, Wrong, PassedOver}
use Rattle.sp3.specs.Records.{is_wrong, untimed, faulty}
use Rattle.sp3.specs.Walks.{any_fault_from}

-- behind an epoch line
timed : (L : List Line) → any_fault_from true L ≡ any is_wrong L
unfolding any_fault_from
timed [] = refl
timed (Epoch t ∷ L) = timed L
timed (Located p ∷ L) = timed L
timed (Absent ∷ L) = timed L
timed (Wrong ∷ L) = refl
timed (PassedOver ∷ L) = timed L

pub faults : (L : List Line) → any_fault_from false L ≡ faulty L
unfolding any_fault_from untimed
faults [] = refl
faults (Epoch t ∷ L) = timed L ∙ sym (or-false (any is_wrong L))
faults (Located p ∷ L) = sym (or-true (any is_wrong L))
faults (Absent ∷ L) = sym (or-true (any is_wrong L))
faults (Wrong ∷ L) = refl
faults (PassedOver ∷ L) = faults L
