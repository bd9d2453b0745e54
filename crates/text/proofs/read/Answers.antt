-- `read` is right because the rows are tried in the page's order, and what the readers build is the positive form of the meaning.
use Rattle.std.proofs.Common.{arith}
use Rattle.std.proofs.lemmas.Grind.{common_steps}
use Rattle.std.proofs.lemmas.Result.{err_from_is_err_and}
use Rattle.text.proofs.ReadWhole.{refused_crowded, held_right, refused_fault}
use Rattle.text.proofs.ScanRuns.{few_numbers}
use Rattle.text.proofs.read.Goals as goal

pub returns-in_err-crowded : goal.returns-in_err-crowded
returns-in_err-crowded c =
    let p = err_from_is_err_and c.from_residual-in_err-crowded.result c.from_residual-in_err-crowded.ensures.1 in
    rw (p.1, p.2) (refused_crowded c.in_ok-first_refusal.ensures _ c.in_err-crowded.ensures)

pub whole-requires : goal.whole-requires
whole-requires c =
    let few = few_numbers c.args.text.now c.in_ok-crowded.ensures in
    grind (arith, common_steps)

pub returns-in_err-filled : goal.returns-in_err-filled
returns-in_err-filled c =
    let p = err_from_is_err_and c.from_residual-in_err-filled.result c.from_residual-in_err-filled.ensures.1 in
    rw (p.1, p.2) (refused_fault c.in_ok-first_refusal.ensures _ c.in_err-filled.ensures)

pub returns : goal.returns
returns c = rw c.div_ceil.ensures (held_right c.in_ok-first_refusal.ensures c.in_ok-crowded.ensures c.in_ok-filled.ensures)
