-- `finish` decides 7 by the greatest cost, which is the number of labels, and 8 by the length, and then weaves.
use Rattle.std.proofs.Common.{arith}
use Rattle.compiler.proofs.Sites.{tree_some, price_site, labels_needed, weave_room, finished_7, finished_8, finished_table}
use Rattle.compiler.proofs.finish.Goals as goal

pub root-requires : goal.root-requires
root-requires c = tree_some c.requires.held

pub price_by-tag-requires : goal.price_by-tag-requires
price_by-tag-requires c = price_site c.requires c.root.ensures

pub returns-then-labels-from : goal.returns-then-labels-from
returns-then-labels-from c =
    finished_7
    (labels_needed c.args.n c.greatest-labels.result c.root.ensures c.price_by-tag.ensures (c.greatest-labels.ensures c.price_by-tag.result.mark))
    (omega (arith, c.from.ensures, c.if-labels-from.true))

pub returns-then-out-length : goal.returns-then-out-length
returns-then-out-length c =
    finished_8
    (labels_needed c.args.n c.greatest-labels.result c.root.ensures c.price_by-tag.ensures (c.greatest-labels.ensures c.price_by-tag.result.mark))
    c.table_length-length.result c.table_length-length.ensures (omega (arith, c.from.ensures, c.if-labels-from.false)) (omega arith)

pub weave-requires : goal.weave-requires
weave-requires c =
    weave_room c.requires
    (labels_needed c.args.n c.greatest-labels.result c.root.ensures c.price_by-tag.ensures (c.greatest-labels.ensures c.price_by-tag.result.mark))
    (omega (arith, c.from.ensures, c.if-labels-from.false)) (omega (arith, c.table_length-length.ensures))

pub returns : goal.returns
returns c =
    finished_table
    (labels_needed c.args.n c.greatest-labels.result c.root.ensures c.price_by-tag.ensures (c.greatest-labels.ensures c.price_by-tag.result.mark))
    c.table_length-length.result c.table_length-length.ensures (omega (arith, c.from.ensures, c.if-labels-from.false)) (omega arith) c.weave.ensures
