-- What the checks of a table answer, on any bytes.
--   checked_header table                         == the header, where header and length fit, or the fault
--   checked_gate table h k, checked_end table h  == what one record says, where it fits under that header, or its start
--   checked_table table                          == the header of a well-formed table, or the first fault
-- Assumes nothing.
use Rattle.std.specs.Prelude.{ℕ, ◌+◌, Bool, not, List, Result, Ok, Err, leb, length}
use Rattle.std.proofs.Math.Option.{Option, none, some}
use Rattle.terms.specs.First.{where_so}
use Rattle.table.specs.Layout.{Header, GateFields, EndFields, gate_length, end_length, record_start, header_of, gate_from, end_from}
use Rattle.table.specs.Twins.Faults.{gate_fields_fit, end_fields_fit, frame_fault, table_fault, or_else}
use Rattle.table.specs.declared.Header as coded_header
use Rattle.table.specs.declared.Gate.{Gate}
use Rattle.table.specs.declared.End.{End}
use Rattle.table.specs.declared.Fault.{Fault}

-- what a table says, in the structs of the code
abbrev pub header_said : List ℕ → coded_header.Header
header_said table =
    record { kind = (header_of table).kind; gates = (header_of table).gates; labels = (header_of table).labels }

abbrev pub coded_gate : GateFields → Gate
coded_gate g =
    record {
      kind = g.kind;
      primitive = record { 0 = g.primitive };
      own = record { 0 = g.own };
      on_true = record { 0 = g.on_true };
      on_false = record { 0 = g.on_false };
    }

abbrev pub coded_end : EndFields → End
coded_end e =
    record { kind = e.kind; on_true = record { 0 = e.on_true }; on_false = record { 0 = e.on_false } }

-- the record of gate k and the last one, where this header puts them
abbrev pub gate_under : Header → List ℕ → ℕ → GateFields
gate_under h table k = gate_from table (record_start h k)

abbrev pub end_under : Header → List ℕ → EndFields
end_under h table = end_from table (record_start h h.gates)

-- what fits, or the place of a fault
abbrev pub or_fault : {A : Type 0} → Option ℕ → A → Result A Fault
or_fault none x = Ok x
or_fault (some at) x = Err (record { 0 = at })

-- a record of so many bytes that starts at this place: at fault where the table does not hold it whole or it does not fit
abbrev pub record_fault : List ℕ → ℕ → ℕ → Bool → Option ℕ
record_fault table at size fits =
    or_else (where_so (not (leb (at + size) (length table))) at) (where_so (not fits) at)

abbrev pub checked_header : List ℕ → Result coded_header.Header Fault
checked_header table = or_fault (frame_fault table) (header_said table)

abbrev pub checked_gate : List ℕ → Header → ℕ → Result Gate Fault
checked_gate table h k =
    or_fault
    (record_fault table (record_start h k) (gate_length h) (gate_fields_fit h k (gate_under h table k)))
    (coded_gate (gate_under h table k))

abbrev pub checked_end : List ℕ → Header → Result End Fault
checked_end table h =
    or_fault
    (record_fault table (record_start h h.gates) end_length (end_fields_fit h (end_under h table)))
    (coded_end (end_under h table))

abbrev pub checked_table : List ℕ → Result coded_header.Header Fault
checked_table table = or_fault (table_fault table) (header_said table)
