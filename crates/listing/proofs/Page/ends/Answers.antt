-- The line is one of two words, each with its number.
use Rattle.terms.specs.Texts.{bytes}
use Rattle.listing.proofs.Page.ends.Goals as goal

pub returns : goal.returns
unfolding bytes
returns c = rw (c.from.ensures, c.from-2.ensures) at c.pair.ensures
