-- `readers::input_size` meets its contract: what A says stands behind the letter and the sign.
use Rattle.std.proofs.lemmas.Result.{err_from_is_err_and}
use Rattle.readers.proofs.Parameters.{input_read, input_stop}
use Rattle.readers.proofs.input_size.Goals as goal

pub returns-in_err-given : goal.returns-in_err-given
returns-in_err-given c =
    let s = c.args.s.now in
    let p = err_from_is_err_and c.from_residual.result c.from_residual.ensures.1 in
    rw (p.1, p.2) (input_stop s c.requires.0 c.requires.1 _ c.in_err-given.ensures)

pub returns : goal.returns
returns c =
    let s = c.args.s.now in
    input_read s c.requires.0 c.requires.1 _ _ _ c.in_ok-given.ensures
