-- A byte that is not allowed is refused where the text is not too long.
use Rattle.std.proofs.Common.{arith}
use Rattle.std.proofs.lemmas.Result.{err_from_is_err_and}
use Rattle.text.proofs.Early.{refused_foreign}
use Rattle.text.proofs.first_refusal.Goals as goal

pub returns-in_err-given : goal.returns-in_err-given
returns-in_err-given c =
    let p = err_from_is_err_and c.from_residual.result c.from_residual.ensures.1 in
    rw (p.1, p.2) (refused_foreign c.args.text.now (omega arith) c.foreign.result c.foreign.ensures _ c.in_err-given.ensures)
