-- The space is written, and then the number behind it.
use Rattle.terms.specs.Texts.{bytes}
use Rattle.listing.proofs.Writing.{then_within, whole}
use Rattle.listing.proofs.Page.spaced.Goals as goal

pub returns : goal.returns
unfolding bytes
returns g c = then_within (whole c.word.ensures) c.number.ensures
