-- A gate's record starts where the one before it ended, and the end behind the last of them.
use Rattle.table.proofs.WriteBytes.{gate_stored, writing_more, written}
use Rattle.table.proofs.write.write.Goals as goal

pub loop-k-preserved : goal.loop-k-preserved
loop-k-preserved c =
    writing_more _ _ _ _ _ _ _ _ _ _ _ _ c.loop-k.invariant _ _ c.record_start.ensures c.loop-k-test.true
    c.put_gate.auto.out
    (gate_stored c.args.gates.now c.loop-k.k _ c.loop-k-test.true _ _ _ c.put_gate.ensures)

pub returns : goal.returns
returns c =
    written _ _ _ _ _ _ _ _ _ _ _ _ c.loop-k.invariant _ _ _ c.end_start.ensures c.loop-k-test.false
    c.requires.out_long c.put_header.ensures c.put.ensures
