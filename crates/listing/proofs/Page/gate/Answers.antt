-- What the gate says is written part by part, in the order of the line.
use Rattle.std.proofs.Common.{arith}
use Rattle.table.specs.Shown.{shown_gate}
use Rattle.listing.proofs.Decimals.{decimal_short, decimal_written}
use Rattle.listing.proofs.Parts.{gate_written}
use Rattle.listing.proofs.Writing.{tight}
use Rattle.listing.proofs.Page.gate.Goals as goal

pub returns-clause-line : goal.returns-clause-line
returns-clause-line c =
    gate_written _ (shown_gate c.args.gate) (rw (decimal_written c.args.k.0 (omega arith)) at c.number.ensures)
    (rw (decimal_written c.args.gate.primitive.0 (omega arith)) at c.spaced.ensures) c.sign.ensures c.labels.ensures c.word.ensures

pub returns-clause-few : goal.returns-clause-few
returns-clause-few c few =
    let number = rw (decimal_written c.args.k.0 (omega arith)) at c.number.ensures in
    gate_written _ (shown_gate c.args.gate) (tight number.written (decimal_short 3 c.args.k.0 (omega (arith, few))))
    (rw (decimal_written c.args.gate.primitive.0 (omega arith)) at c.spaced.ensures) c.sign.ensures c.labels.ensures c.word.ensures
