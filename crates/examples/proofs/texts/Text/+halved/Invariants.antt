-- `halved` ends because each half is halved one time less.
use Rattle.examples.proofs.texts.Text.+halved.Given as goal

abbrev pub decreases-halved : goal.decreases-halved
decreases-halved l = l.level
