-- `readers::number_then` meets its contract: the mark stands behind the number, or not.
use Rattle.std.proofs.Common.{arith}
use Rattle.std.proofs.lemmas.Result.{err_from_is_err_and}
use Rattle.readers.proofs.Parts.{then_read, then_other, then_stop}
use Rattle.readers.proofs.number_then.Goals as goal

pub returns-in_err-n : goal.returns-in_err-n
returns-in_err-n c =
    let p = err_from_is_err_and c.from_residual.result c.from_residual.ensures.1 in
    rw (p.1, p.2) (then_stop c.args.mark c.args.s.now c.args.from _ c.in_err-n.ensures)

pub returns-in_err-used : goal.returns-in_err-used
returns-in_err-used c =
    let p = err_from_is_err_and c.from_residual-in_err-used.result c.from_residual-in_err-used.ensures.1 in
    rw (p.1, p.2) (rw c.in_err-used.ensures.1 (then_other c.args.mark c.args.s.now c.args.from _ _ c.in_ok-n.ensures c.in_err-used.ensures.0))

pub returns : goal.returns
returns c =
    rw c.in_ok-used.ensures.1 (then_read c.args.mark c.args.s.now c.args.from _ _ c.in_ok-n.ensures (omega arith) c.in_ok-used.ensures.0)
