-- Each turn puts the word once more behind those before it.
use Rattle.examples.proofs.Puts.{put_no_times, put_again}
use Rattle.examples.proofs.texts.Text.words.Goals as goal

pub loop-init : goal.loop-init
loop-init c = put_no_times _ _ _

pub loop-preserved : goal.loop-preserved
loop-preserved c = put_again _ _ c.loop.invariant c.word.ensures
