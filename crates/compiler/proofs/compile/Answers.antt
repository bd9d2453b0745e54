-- `compile` reads, plans and finishes, and each part's answer is the one that `compiled` puts together.
use Rattle.std.proofs.lemmas.Result.{err_from_is_err_and}
use Rattle.compiler.proofs.Compiling.{read_tree, read_marking, compiled_refused, compiled_held}
use Rattle.compiler.proofs.compile.Goals as goal

pub returns-in_err-n : goal.returns-in_err-n
returns-in_err-n c =
    let p = err_from_is_err_and c.from_residual.result c.from_residual.ensures.1 in
    rw (p.1, p.2) (compiled_refused c.in_err-n.ensures)

pub plan-requires : goal.plan-requires
plan-requires c = read_tree c.in_ok-n.ensures

pub finish-requires : goal.finish-requires
finish-requires c = read_marking c.in_ok-n.ensures c.plan.ensures

pub returns : goal.returns
returns c = compiled_held c.in_ok-n.ensures c.plan.ensures c.finish.ensures
