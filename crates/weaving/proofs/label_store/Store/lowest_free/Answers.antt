-- `lowest_free` counts the zeros at the word's low end, and the bit above them is the first that is set.
use Rattle.weaving.proofs.CodeStore.{lowest}
use Rattle.weaving.proofs.label_store.Store.lowest_free.Goals as goal

pub returns : goal.returns
returns c = lowest c.args.self c.requires
