-- What the structs of the code stand for: what a header and a record say, with their counters taken out (scope 10.1).
-- Assumes nothing.
use Rattle.table.specs.Layout.{Header, GateFields, EndFields}
use Rattle.table.specs.declared.Header as coded_header
use Rattle.table.specs.declared.Gate.{Gate}
use Rattle.table.specs.declared.End.{End}

abbrev pub shown_header : coded_header.Header → Header
shown_header h = record { kind = h.kind; gates = h.gates; labels = h.labels }

abbrev pub shown_gate : Gate → GateFields
shown_gate g =
    record {
      kind = g.kind;
      primitive = g.primitive.0;
      own = g.own.0;
      on_true = g.on_true.0;
      on_false = g.on_false.0;
    }

abbrev pub shown_end : End → EndFields
shown_end e = record { kind = e.kind; on_true = e.on_true.0; on_false = e.on_false.0 }
