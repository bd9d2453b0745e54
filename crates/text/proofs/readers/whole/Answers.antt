-- `whole` is right because a sum that ends with the text is its meaning, and behind one that ends before it the machine is stuck.
use Rattle.std.proofs.Common.{arith}
use Rattle.std.proofs.lemmas.Result.{err_from_is_err_and}
use Rattle.text.proofs.ReadWhole.{whole_read, whole_more, whole_fault}
use Rattle.text.proofs.readers.whole.Goals as goal

pub returns-in_err-end : goal.returns-in_err-end
returns-in_err-end c =
    let p = err_from_is_err_and c.from_residual.result c.from_residual.ensures.1 in
    rw (p.1, p.2) (whole_fault _ _ c.in_err-end.ensures)

pub returns-then-end-text : goal.returns-then-end-text
returns-then-end-text c = whole_more c.in_ok-end.ensures c.if-end-text.true

pub returns : goal.returns
returns c = whole_read c.in_ok-end.ensures c.requires (let h = c.in_ok-end.ensures.within in omega arith)
