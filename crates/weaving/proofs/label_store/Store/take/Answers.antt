-- `take` clears the bit of the label, and no other.
use Rattle.weaving.proofs.CodeStore.{taken}
use Rattle.weaving.proofs.label_store.Store.take.Goals as goal

pub returns : goal.returns
returns c = taken c.args.self c.args.label.0 _ c.requires c.bit_of.ensures
