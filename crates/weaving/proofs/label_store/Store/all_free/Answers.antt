-- `all_free` sets the bits of all sixteen labels.
use Rattle.weaving.proofs.CodeStore.{emptied}
use Rattle.weaving.proofs.label_store.Store.all_free.Goals as goal

pub returns : goal.returns
returns c = emptied
