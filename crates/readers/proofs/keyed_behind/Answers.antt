-- `readers::keyed_behind` meets its contract: the sign, the key with its comma, and what is behind it.
use Rattle.std.proofs.lemmas.Result.{err_from_is_err_and}
use Rattle.readers.proofs.Parameters.{keyed_unsigned, keyed_goes, keyed_stops}
use Rattle.readers.proofs.keyed_behind.Goals as goal

pub returns-in_err-first : goal.returns-in_err-first
returns-in_err-first c =
    let a = c.args in
    let s = a.s.now in
    let p = err_from_is_err_and c.from_residual.result c.from_residual.ensures.1 in
    rw (p.1, p.2) (rw c.in_err-first.ensures.1 (keyed_unsigned s a.from c.requires (λ z. c.in_err-first.ensures.0 z)))

pub returns-in_err-key : goal.returns-in_err-key
returns-in_err-key c =
    let a = c.args in
    let s = a.s.now in
    let p = err_from_is_err_and c.from_residual-in_err-key.result c.from_residual-in_err-key.ensures.1 in
    rw (p.1, p.2) (keyed_stops s a.from c.in_ok-first.ensures.0 _ (rw c.in_ok-first.ensures.1 at c.in_err-key.ensures))

pub returns : goal.returns
returns c =
    let a = c.args in
    let s = a.s.now in
    keyed_goes s a.from c.in_ok-first.ensures.0 _ _ (rw c.in_ok-first.ensures.1 at c.in_ok-key.ensures) c.data_behind.result c.data_behind.ensures
