-- Ten elements of a list from one on, as a part of it, are the row of its numbers from there, and the chunks of ten are the rows one after the other.
-- Assumes nothing.
use mathlib.Core.Path.{◌≡◌, refl, ap, ap₂, ◌∙◌}
use mathlib.Core.List.{List, ◌∷◌}
use Prim.Native.Nat.{ℕ, zero, suc, ◌+◌, ◌-◌, ◌*◌, ◌≤◌}
use native.Mathlib.Omega.{arith}
use lib.ListN.{length, get_or, take, drop, length-take, length-drop}
use lib.Seq.{drop-drop}
use lib.Ieee.{Float, nan}
use Rattle.std.specs.Simd.{first_chunks}
use Rattle.std.proofs.lemmas.List.{get_or-take, get_or-drop}
use Rattle.common.specs.Lists.{list_of}
use Rattle.common.proofs.Filled.{filled}
use Rattle.chebyshev.specs.Inverse.{Row, Matrix}
use Rattle.orbit_abi.specs.Areas.{row_from, row_at}

-- ten numbers from one on are the row
ten_from : (xs : List Float) (from : ℕ) → from + 10 ≤ length xs → take 10 (drop from xs) ≡ row_from xs from
ten_from xs from inside =
    filled (λ k. get_or xs (from + k) nan) 10 nan (take 10 (drop from xs)) (simp (length-take, length-drop) (omega arith)) (λ k h. get_or-take 10 (drop from xs) k nan h ∙ get_or-drop from xs k nan)

pub part_is_row : (xs : List Float) (from : ℕ) → from + 10 ≤ length xs → take (from + 10 - from) (drop from xs) ≡ row_from xs from
part_is_row xs from inside =
    let ten : from + 10 - from ≡ 10 = omega arith in
    rw ten (ten_from xs from inside)

-- the library's chunks of ten numbers are the rows, from row r on
pub chunks_are_rows : (k r : ℕ) (xs : List Float) → 10 * (r + k) ≤ length xs → first_chunks 10 k (drop (10 * r) xs) ≡ list_of (row_at xs) k r
unfolding list_of
chunks_are_rows zero r xs inside = refl
chunks_are_rows (suc k) r xs inside =
    let next : 10 * r + 10 ≡ 10 * (r + 1) = omega arith in
    ap₂ (λ (x : Row) (l : Matrix). x ∷ l)
    (ten_from xs (10 * r) (omega arith))
    (ap (first_chunks 10 k) (drop-drop 10 (10 * r) xs ∙ ap (λ (n : ℕ). drop n xs) next) ∙ chunks_are_rows k (r + 1) xs (omega arith))
