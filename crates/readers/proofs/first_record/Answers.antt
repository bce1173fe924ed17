-- `readers::first_record` meets its contract: the number stands behind the R.
use Rattle.std.proofs.lemmas.Result.{err_from_is_err_and}
use Rattle.readers.proofs.Parameters.{first_read, first_stop}
use Rattle.readers.proofs.first_record.Goals as goal

pub returns-in_err-n : goal.returns-in_err-n
returns-in_err-n c =
    let s = c.args.s.now in
    let p = err_from_is_err_and c.from_residual.result c.from_residual.ensures.1 in
    rw (p.1, p.2) (first_stop s c.requires _ c.in_err-n.ensures)

pub returns : goal.returns
returns c =
    let s = c.args.s.now in
    rw c.single.ensures (first_read s c.requires _ _ c.in_ok-n.ensures)
