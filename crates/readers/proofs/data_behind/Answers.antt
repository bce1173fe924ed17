-- `readers::data_behind` meets its contract: the letter, the sign, the number and its bracket.
use Rattle.std.proofs.Common.{◌≡◌, ◌+◌, arith}
use Rattle.std.proofs.lemmas.Result.{err_from_is_err_and}
use Rattle.readers.proofs.Parameters.{no_data, data_unsigned, data_read, data_stops}
use Rattle.readers.proofs.data_behind.Goals as goal

pub returns-in_err-sign : goal.returns-in_err-sign
returns-in_err-sign c =
    let a = c.args in
    let s = a.s.now in
    let p = err_from_is_err_and c.from_residual.result c.from_residual.ensures.1 in
    rw (p.1, p.2) (rw c.in_err-sign.ensures.1 (no_data a.key s a.from c.requires (λ z. c.in_err-sign.ensures.0 z)))

pub returns-in_err-second : goal.returns-in_err-second
returns-in_err-second c =
    let a = c.args in
    let s = a.s.now in
    let p = err_from_is_err_and c.from_residual-in_err-second.result c.from_residual-in_err-second.ensures.1 in
    rw (p.1, p.2) (rw (c.in_err-second.ensures.1, c.in_ok-sign.ensures.1) (data_unsigned a.key s a.from c.in_ok-sign.ensures.0 (rw c.in_ok-sign.ensures.1 at c.in_err-second.ensures.0)))

pub returns-in_err-data : goal.returns-in_err-data
returns-in_err-data c =
    let a = c.args in
    let s = a.s.now in
    let second : c.in_ok-second.second ≡ c.args.from + 2 = omega (arith, c.in_ok-sign.ensures, c.in_ok-second.ensures) in
    let sign = rw c.in_ok-sign.ensures.1 at c.in_ok-second.ensures.0 in
    let p = err_from_is_err_and c.from_residual-in_err-data.result c.from_residual-in_err-data.ensures.1 in
    rw (p.1, p.2) (data_stops a.key s a.from c.in_ok-sign.ensures.0 sign _ (rw second at c.in_err-data.ensures))

pub returns : goal.returns
returns c =
    let a = c.args in
    let s = a.s.now in
    let second : c.in_ok-second.second ≡ c.args.from + 2 = omega (arith, c.in_ok-sign.ensures, c.in_ok-second.ensures) in
    let sign = rw c.in_ok-sign.ensures.1 at c.in_ok-second.ensures.0 in
    rw second (data_read a.key s a.from c.in_ok-sign.ensures.0 sign _ _ (rw second at c.in_ok-data.ensures))
