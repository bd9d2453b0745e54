-- Each turn adds the next gate's line, and behind the last one the line of the ends makes the listing whole.
use Rattle.std.proofs.Common.{arith, rules}
use Rattle.terms.specs.Texts.{bytes}
use Rattle.listing.proofs.Parts.{no_gate, next_gate, all_lines}
use Rattle.listing.proofs.print_table.Goals as goal

pub loop-k-init : goal.loop-k-init
loop-k-init c = no_gate c.args.table.now _ c.header_at-header.ensures _

pub loop-k-preserved : goal.loop-k-preserved
loop-k-preserved c = next_gate c.args.table.now _ c.header_at-header.ensures _ _ c.gate_at.ensures c.loop-k.invariant c.gate.ensures.line

pub returns : goal.returns
unfolding bytes
returns c =
    all_lines c.args.table.now _ c.header_at-header.ensures _ _ c.end_at-end.ensures c.requires c.new-page.ensures.start c.new-page.ensures.buffer
    (search rules) (omega arith) c.loop-k.auto.k-end c.loop-k-test.false (rw (c.from.ensures, c.from-2.ensures) at c.pair.ensures) c.loop-k.invariant c.ends.ensures
