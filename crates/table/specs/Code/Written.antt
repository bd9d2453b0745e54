-- The bytes of a table whose gates stand in five lists: their primitives and senses, their own labels and those of their two
-- places.
--   plain        == the sense that a byte of the senses stands for
--   record_at    == the record of gate k
--   gate_records == the records of so many gates from gate k on
--   table_bytes  == the whole table
-- Assumes nothing.
use Rattle.std.specs.Prelude.{ℕ, zero, suc, Bool, not, List, [], ◌++◌, eqb, get_or}
use Rattle.terms.specs.Terms.{Label}
use Rattle.table.specs.Layout.{header_bytes, gate_bytes, end_bytes}

-- 0 stands for a complemented gate, any other byte for a plain one
abbrev pub plain : ℕ → Bool
plain sense = not (eqb sense 0)

abbrev pub record_at : List ℕ → List ℕ → List ℕ → List ℕ → List ℕ → ℕ → List ℕ
record_at primitives senses owns on_trues on_falses k =
    gate_bytes (plain (get_or senses k 0)) (get_or primitives k 0) (get_or owns k 0) (get_or on_trues k 0) (get_or on_falses k 0)

unfoldable pub gate_records : List ℕ → List ℕ → List ℕ → List ℕ → List ℕ → ℕ → ℕ → List ℕ
gate_records primitives senses owns on_trues on_falses k zero = []
gate_records primitives senses owns on_trues on_falses k (suc m) =
    record_at primitives senses owns on_trues on_falses k ++ gate_records primitives senses owns on_trues on_falses (suc k) m

-- "A table is one `H`, n gates, one `E`"
unfoldable pub table_bytes : ℕ → ℕ → List ℕ → List ℕ → List ℕ → List ℕ → List ℕ → Label → Label → List ℕ
table_bytes n count primitives senses owns on_trues on_falses on_true on_false =
    header_bytes n count ++ (gate_records primitives senses owns on_trues on_falses 0 n ++ end_bytes on_true on_false)
