-- `plan` turns the expression at the root, and turning leaves the marks that the definitions give.
use Rattle.compiler.proofs.Sites.{tree_some, turn_site, turned_planned}
use Rattle.compiler.proofs.plan.Goals as goal

pub root-requires : goal.root-requires
root-requires c = tree_some c.requires

pub turn-requires : goal.turn-requires
turn-requires c = turn_site c.requires c.root.ensures

pub returns : goal.returns
returns c = turned_planned c.root.ensures c.turn.ensures
