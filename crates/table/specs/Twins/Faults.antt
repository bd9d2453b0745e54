-- The faults of a table: as tests that compute, in the order of the page, each with its place.
--   header_fields_fit, gate_fields_fit, end_fields_fit == the tests of a header and of a record, on what they say
--   frame_fault table   == the fault of header and length
--   gate_fault table k  == the fault of the record of gate k
--   end_fault table     == the fault of the last record
--   table_fault table   == the start of the first record at fault
-- Assumes nothing.
use Rattle.std.specs.Prelude.{ℕ, Bool, not, ◌&&◌, ◌||◌, List, leb, eqb, length}
use Rattle.std.proofs.Math.Option.{Option, none, some}
use Rattle.terms.specs.Terms.{Label, first_label, in_range, greatest_primitive, most_literals, least_labels, most_labels}
use Rattle.terms.specs.First.{first_below, where_so}
use Rattle.table.specs.Layout.{H, P, N, E, header_length, record_start, length_by, Header, header_of, GateFields, gate_of, EndFields, end_of}

-- "it starts with `H`, n is 1 to 1,024, the label count 2 to 15" (scope 5.3)
abbrev pub header_fields_fit : Header → Bool
header_fields_fit h =
    eqb h.kind H
    && (leb 1 h.gates
    && (leb h.gates most_literals
    && (leb least_labels h.labels && leb h.labels most_labels)))

abbrev pub header_fits : List ℕ → Bool
header_fits table = leb (header_length (header_of table)) (length table) && header_fields_fit (header_of table)

abbrev pub length_fits : List ℕ → Bool
length_fits table = eqb (length table) (length_by (header_of table))

abbrev pub three_in_range : ℕ → Label → Label → Label → Bool
three_in_range count a b c = in_range count a && (in_range count b && in_range count c)

abbrev pub gate_kind : ℕ → Bool
gate_kind kind = eqb kind P || eqb kind N

-- gate 0 is entered on the first label
abbrev pub entered_right : ℕ → Label → Bool
entered_right k own = not (eqb k 0) || eqb own first_label

-- "every gate record is `P` or `N` with a primitive up to 1,023 and labels below the label count, gate 0's own label is 0"
-- (scope 5.3)
abbrev pub gate_fields_fit : Header → ℕ → GateFields → Bool
gate_fields_fit h k g =
    gate_kind g.kind
    && (leb g.primitive greatest_primitive
    && (three_in_range h.labels g.own g.on_true g.on_false && entered_right k g.own))

abbrev pub gate_fits : List ℕ → ℕ → Bool
gate_fits table k = gate_fields_fit (header_of table) k (gate_of table k)

-- "the last record is `E` with two different labels below the count" (scope 5.3)
abbrev pub end_fields_fit : Header → EndFields → Bool
end_fields_fit h e =
    eqb e.kind E
    && (in_range h.labels e.on_true
    && (in_range h.labels e.on_false && not (eqb e.on_true e.on_false)))

abbrev pub end_fits : List ℕ → ℕ → Bool
end_fits table n = end_fields_fit (header_of table) (end_of table n)

-- "Header and length faults have place 0; the length is tested after the header." (scope 5.3)
abbrev pub frame_fault : List ℕ → Option ℕ
frame_fault table = where_so (not (header_fits table && length_fits table)) 0

abbrev pub gate_fault : List ℕ → ℕ → Option ℕ
gate_fault table k = where_so (not (gate_fits table k)) (record_start (header_of table) k)

abbrev pub end_fault : List ℕ → Option ℕ
end_fault table = where_so (not (end_fits table (header_of table).gates)) (record_start (header_of table) (header_of table).gates)

-- one place or, where there is none, another
abbrev pub or_else : Option ℕ → Option ℕ → Option ℕ
or_else (some p) later = some p
or_else none later = later

abbrev pub starting : Header → Option ℕ → Option ℕ
starting h none = none
starting h (some k) = some (record_start h k)

-- the start of the first gate record at fault
abbrev pub gates_fault : List ℕ → Option ℕ
gates_fault table = starting (header_of table) (first_below (λ k. not (gate_fits table k)) (header_of table).gates)

-- "not a well-formed table": "start of the first record at fault" (scope 7.1)
unfoldable pub table_fault : List ℕ → Option ℕ
table_fault table = or_else (frame_fault table) (or_else (gates_fault table) (end_fault table))
