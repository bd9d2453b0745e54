-- The kind is tested as the definition does.
use Rattle.std.proofs.Common.{eq-eqb, ne_eqb}
use Rattle.terms.specs.Texts.{bytes}
use Rattle.listing.proofs.Writing.{whole}
use Rattle.listing.proofs.Page.sign.Goals as goal

pub returns-then-kind-eq-P : goal.returns-then-kind-eq-P
unfolding bytes
returns-then-kind-eq-P c = simp (eq-eqb _ _ c.if-kind-eq-P.true) (whole c.word.ensures)

pub returns-else-kind-eq-P : goal.returns-else-kind-eq-P
unfolding bytes
returns-else-kind-eq-P c = simp (ne_eqb _ _ c.if-kind-eq-P.false) (whole c.word-else-kind-eq-P.ensures)
