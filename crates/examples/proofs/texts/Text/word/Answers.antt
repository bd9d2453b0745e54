-- Each turn puts the next byte of the word behind those before it.
use Rattle.examples.proofs.Puts.{put_next}
use Rattle.examples.proofs.texts.Text.word.Goals as goal

pub loop-byte-preserved : goal.loop-byte-preserved
loop-byte-preserved c = put_next _ _ c.loop-byte.invariant c.loop-byte-test.true c.byte.ensures
