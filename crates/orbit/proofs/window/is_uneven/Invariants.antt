-- The gaps so far were wide, or else the rest decides; a wide gap settles it. Assumes nothing.
use mathlib.Core.Path.{◌≡◌}
use mathlib.Core.Bool.{◌||◌}
use Prim.Native.Nat.{◌-◌, ◌≤◌}
use lib.ListN.{length, drop}
use Rattle.std.specs.Slice.Iter.{windows_rest, windows_size}
use Rattle.orbit.specs.Window.{first_time, last_time, uneven}
use Rattle.common.specs.Numbers.{nine}
use Rattle.orbit.proofs.Models.{wide_from}
use Rattle.common.specs.Rounded.{◌⊖◌, ◌⊘◌}
use Rattle.orbit.proofs.window.is_uneven.Given as goal

abbrev pub invariant-loop-pair : goal.invariant-loop-pair
invariant-loop-pair l =
    let rest = windows_rest l.pair-iterator in
    let t = l.fn.t in
    record {
      ten : length t ≡ 10;
      pairs : windows_size l.pair-iterator ≡ 2;
      inside : length rest ≤ length t;
      rest_is : rest ≡ drop (length t - length rest) t;
      gap_is : l.gap ≡ (last_time t ⊖ first_time t) ⊘ nine;
      found : l.uneven || wide_from (length t - length rest) l.tolerance t ≡ uneven l.tolerance t;
    }
