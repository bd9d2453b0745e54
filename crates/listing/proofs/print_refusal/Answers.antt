-- The line is one of two words, each with its number, and stands at the start of the buffer.
use Rattle.std.proofs.Common.{arith, rules}
use Rattle.terms.specs.Texts.{bytes}
use Rattle.listing.specs.Lines.{refusal_line}
use Rattle.listing.proofs.Writing.{printed}
use Rattle.listing.proofs.print_refusal.Goals as goal

pub returns : goal.returns
unfolding bytes refusal_line
returns c =
    let line = rw c.from.ensures at c.pair.ensures in
    printed line.written c.new-page.ensures.start c.new-page.ensures.buffer (search rules) (omega arith)
