-- Each part is put behind the one before it.
use Rattle.terms.specs.Texts.{bytes}
use Rattle.examples.proofs.Puts.{put_chain}
use Rattle.examples.proofs.texts.Text.exchanged.Goals as goal

pub returns : goal.returns
unfolding bytes
returns c = put_chain (put_chain (put_chain (put_chain c.words.ensures c.word.ensures) c.words-2.ensures) c.word-2.ensures) c.words-3.ensures
