-- `give_back` sets the bit of the label, and no other.
use Rattle.weaving.proofs.CodeStore.{given_back}
use Rattle.weaving.proofs.label_store.Store.give_back.Goals as goal

pub returns : goal.returns
returns c = given_back c.args.self c.args.label.0 _ c.requires c.bit_of.ensures
