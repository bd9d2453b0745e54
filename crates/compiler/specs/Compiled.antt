-- The table's bytes, and the lent buffer after compiling.
--   table_of w     == the bytes that say the weave w
--   written a out  == what the buffer, which held out, holds after the answer a
-- Assumes nothing.
use Rattle.std.specs.Prelude.{ℕ, List, [], ◌∷◌, ◌++◌, length, drop}
use Rattle.terms.specs.Answer.{Answer, result, refused}
use Rattle.weaving.specs.Labels.{GateRecord, Woven}
use Rattle.table.specs.Layout.{header_bytes, gate_bytes, end_bytes}

abbrev pub record_bytes : GateRecord → List ℕ
record_bytes g = gate_bytes g.literal.sense g.literal.primitive g.own g.on_true g.on_false

unfoldable pub all_records : List GateRecord → List ℕ
all_records [] = []
all_records (g ∷ gs) = record_bytes g ++ all_records gs

-- "A table is one `H`, n gates, one `E`" (scope 5.2)
unfoldable pub table_of : Woven → List ℕ
table_of w =
    header_bytes (length w.gate_records) w.label_count
    ++ (all_records w.gate_records ++ end_bytes w.true_label w.false_label)

-- "The compiler writes the first 6n + 7 bytes of the lent buffer and no others": what the buffer holds afterwards (scope 5.2)
abbrev pub written : Answer (List ℕ) → List ℕ → List ℕ
written (result bytes) before = bytes ++ drop (length bytes) before
written (refused r at) before = before
