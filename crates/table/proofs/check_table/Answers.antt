-- Each way out says what the check of the part before it found: a fault of the header, of the first gate that does not fit or of
-- the end, or that all of them fit.
use Rattle.std.proofs.Common.{rules, sym, below_more}
use Rattle.table.specs.Twins.Faults.{table_fault}
use Rattle.table.proofs.Whole.{gate_stops, gate_goes, end_stops, end_goes}
use Rattle.table.proofs.check_table.Goals as goal

pub returns-in_err-header : goal.returns-in_err-header
unfolding table_fault
returns-in_err-header c = search rules

pub returns-in_err-check_gate : goal.returns-in_err-check_gate
returns-in_err-check_gate c =
    let e = gate_stops c.args.table.now _ c.in_ok-header.ensures _ c.loop-k.invariant c.loop-k-test.true _ c.in_err-check_gate.ensures in
    search (rules, e)

pub loop-k-preserved : goal.loop-k-preserved
loop-k-preserved c =
    below_more _ _ c.loop-k.invariant (gate_goes c.args.table.now _ c.in_ok-header.ensures _ c.loop-k-test.true _ c.in_ok-check_gate.ensures)

pub returns-in_err-check_end : goal.returns-in_err-check_end
returns-in_err-check_end c =
    let e = end_stops c.args.table.now _ c.in_ok-header.ensures _ c.loop-k.invariant c.loop-k-test.false _ c.in_err-check_end.ensures in
    search (rules, e)

pub returns : goal.returns
returns c = sym (end_goes c.args.table.now _ c.in_ok-header.ensures _ c.loop-k.invariant c.loop-k-test.false _ c.in_ok-check_end.ensures)
