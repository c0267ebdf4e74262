-- The chunks of ten that were copied are the rows. Assumes nothing.
use mathlib.Core.Path.{ap, ◌∙◌}
use Prim.Native.Nat.{ℕ, ◌/◌}
use native.Mathlib.Omega.{arith}
use Rattle.std.specs.Simd.{first_chunks}
use Rattle.orbit_abi.proofs.Tens.{chunks_are_rows}
use Rattle.orbit_abi.proofs.chebyshev_entries.rows_of.Goals as goal

pub returns : goal.returns
returns c =
    let rows = c.args.rows.now in
    c.copy_from_slice.ensures.after ∙ c.as_chunks.ensures.front ∙ ap (λ (n : ℕ). first_chunks 10 (n / 10) rows) c.told-rows ∙ chunks_are_rows 10 0 rows (omega (arith, c.told-rows))
