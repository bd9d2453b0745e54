-- The last word is put behind the others.
use Rattle.examples.proofs.Puts.{put_chain}
use Rattle.examples.proofs.texts.Text.row.Goals as goal

pub returns : goal.returns
returns c = put_chain c.words.ensures c.word.ensures
