-- Each part is put behind the one before it.
use Rattle.terms.specs.Texts.{bytes}
use Rattle.examples.proofs.Puts.{put_chain}
use Rattle.examples.proofs.texts.Text.crossed.Goals as goal

pub returns : goal.returns
unfolding bytes
returns c = put_chain c.words.ensures c.words-2.ensures
