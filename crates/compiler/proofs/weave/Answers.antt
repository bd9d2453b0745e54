-- `weave` lays out, labels and writes in turn; each part finds what the one before it left.
use Rattle.std.proofs.Common.{◌∙◌}
use Rattle.std.proofs.lemmas.List.{length-take-le}
use Rattle.compiler.proofs.Sites.{gates_ready, gates_woven}
use Rattle.compiler.proofs.weave.Goals as goal

pub label-ends-requires : goal.label-ends-requires
label-ends-requires c =
    let many = length-take-le c.args.n _ c.requires.marking.held.few in
    gates_ready _ many (c.lay.auto.gates ∙ many) c.lay.ensures.laid c.requires

pub returns : goal.returns
returns c =
    let many = length-take-le c.args.n _ c.requires.marking.held.few in
    let laid = c.lay.auto.gates ∙ many in
    gates_woven _ many laid c.lay.ensures.laid c.requires (c.label-ends.auto.gates ∙ laid) c.label-ends.ensures.literals_kept c.label-ends.ensures.labelled
    c.write.ensures
