-- Where everything stands in a table, how its records are written, and how they are read.
--   header_length h, gate_length h == how long the header is and each gate's record, under the header that was read
--   record_start h k               == where the record of gate k starts; that of the end, where k is the number of gates
--   length_by h                    == how long a table with this header is
--   table_length n                 == how long the table that is written for n gates is
--   header_bytes, gate_bytes, end_bytes == the bytes of the three records
--   header_of, gate_of, end_of     == what a table says there
-- Assumes nothing.
use Rattle.std.specs.Prelude.{ℕ, ◌+◌, ◌*◌, ◌/◌, ◌%◌, Bool, true, false, List, [], ◌∷◌, ◌++◌, get_or}
use Rattle.terms.specs.Terms.{Primitive, Label, least_labels}

-- "One byte of kind, then a body whose length the kind fixes." (scope 5.1)
abbrev pub H : ℕ
H = 72

abbrev pub P : ℕ
P = 80

abbrev pub N : ℕ
N = 78

abbrev pub E : ℕ
E = 69

pub record Header : Type 0 where
  pub kind : ℕ
  pub gates : ℕ
  pub labels : ℕ

-- `H`: n, two bytes; label count, one byte
abbrev pub header_length : Header → ℕ
header_length h = 4

-- `P` or `N`: primitive, two bytes; own label; label of true place; label of false place
abbrev pub gate_length : Header → ℕ
gate_length h = 6

-- `E`: True's label; False's label
abbrev pub end_length : ℕ
end_length = 3

abbrev pub record_start : Header → ℕ → ℕ
record_start h k = gate_length h * k + header_length h

-- "A table is one `H`, n gates, one `E`" (scope 5.2)
abbrev pub length_by : Header → ℕ
length_by h = record_start h h.gates + end_length

-- the header that is written for n gates
abbrev pub header_for : ℕ → ℕ → Header
header_for n count = record { kind = H; gates = n; labels = count }

-- "6n + 7 bytes", whatever the label count (scope 5.2)
abbrev pub table_length : ℕ → ℕ
table_length n = length_by (header_for n least_labels)

-- "Two-byte numbers have their low byte first." (scope 5.1)
abbrev pub two_bytes : ℕ → List ℕ
two_bytes x = x % 256 ∷ x / 256 % 256 ∷ []

abbrev pub header_bytes : ℕ → ℕ → List ℕ
header_bytes n count = H ∷ (two_bytes n ++ (count ∷ []))

-- "`P` (80), plain gate, or `N` (78), complemented gate" (scope 5.1)
abbrev pub kind_by_sense : Bool → ℕ
kind_by_sense true = P
kind_by_sense false = N

abbrev pub gate_bytes : Bool → Primitive → Label → Label → Label → List ℕ
gate_bytes sense p own on_true on_false = kind_by_sense sense ∷ (two_bytes p ++ (own ∷ on_true ∷ on_false ∷ []))

abbrev pub end_bytes : Label → Label → List ℕ
end_bytes on_true on_false = E ∷ on_true ∷ on_false ∷ []

-- a byte of a table, and a two-byte number
abbrev pub byte_at : List ℕ → ℕ → ℕ
byte_at table i = get_or table i 0

abbrev pub number_at : List ℕ → ℕ → ℕ
number_at table i = byte_at table i + 256 * byte_at table (i + 1)

abbrev pub header_of : List ℕ → Header
header_of table = record { kind = byte_at table 0; gates = number_at table 1; labels = byte_at table 3 }

pub record GateFields : Type 0 where
  pub kind : ℕ
  pub primitive : Primitive
  pub own : Label
  pub on_true : Label
  pub on_false : Label

-- the fields of a gate's record that starts at i
abbrev pub gate_from : List ℕ → ℕ → GateFields
gate_from table i =
    record {
      kind = byte_at table i;
      primitive = number_at table (i + 1);
      own = byte_at table (i + 3);
      on_true = byte_at table (i + 4);
      on_false = byte_at table (i + 5);
    }

abbrev pub gate_of : List ℕ → ℕ → GateFields
gate_of table k = gate_from table (record_start (header_of table) k)

pub record EndFields : Type 0 where
  pub kind : ℕ
  pub on_true : Label
  pub on_false : Label

abbrev pub end_from : List ℕ → ℕ → EndFields
end_from table i = record { kind = byte_at table i; on_true = byte_at table (i + 1); on_false = byte_at table (i + 2) }

-- the end of a table of n gates
abbrev pub end_of : List ℕ → ℕ → EndFields
end_of table n = end_from table (record_start (header_of table) n)
