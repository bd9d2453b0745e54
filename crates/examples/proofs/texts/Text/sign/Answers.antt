-- The test is what the operator hangs on.
use Rattle.std.proofs.Common.{ne_eqb}
use Rattle.terms.specs.Texts.{bytes}
use Rattle.examples.proofs.Puts.{put_plus, put_star}
use Rattle.examples.proofs.texts.Text.sign.Goals as goal

pub returns-then-level-eq0 : goal.returns-then-level-eq0
unfolding bytes
returns-then-level-eq0 c = put_plus _ c.if-level-eq0.true c.word.ensures

pub returns-else-level-eq0 : goal.returns-else-level-eq0
unfolding bytes
returns-else-level-eq0 c = put_star c.args.level (ne_eqb _ _ c.if-level-eq0.false) c.word-else-level-eq0.ensures
