-- Both halves are put by itself, at one level less, with the operator between them and the parentheses around them.
use Rattle.std.proofs.Common.{arith}
use Rattle.terms.specs.Texts.{bytes}
use Rattle.examples.proofs.Puts.{put_number, put_halves}
use Rattle.examples.proofs.texts.Text.+halved.Goals as goal

pub returns-then-level-eq0 : goal.returns-then-level-eq0
unfolding bytes
returns-then-level-eq0 t c = put_number _ c.if-level-eq0.true c.word.ensures

pub returns-else-level-eq0 : goal.returns-else-level-eq0
unfolding bytes
returns-else-level-eq0 t c =
    put_halves _ _ (omega arith) c.word-else-level-eq0.ensures c.halved.ensures c.sign.ensures c.halved-else-level-eq0.ensures
    c.word-else-level-eq0-2.ensures
