-- "A table is one `H`, n gates, one `E`: 6n + 7 bytes.": the table that is written for n gates, whatever its label count, since each
-- part of it has a length of its own. Assumes nothing.
use Prim.Native.Nat.{ℕ, ◌+◌, ◌*◌}
use mathlib.Core.Path.{◌≡◌, refl}
use native.Mathlib.Omega.{arith}
use Rattle.table.specs.Layout.{header_for, length_by, table_length}

pub six_each_and_seven : (n : ℕ) → table_length n ≡ 6 * n + 7
six_each_and_seven n = omega arith

pub whatever_count : (n count : ℕ) → length_by (header_for n count) ≡ table_length n
whatever_count n count = refl
