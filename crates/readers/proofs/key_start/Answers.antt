-- `readers::key_start` meets its contract: the letter, the comma, the number and its bracket, and the comma behind it.
use Rattle.std.proofs.Common.{◌≡◌, arith}
use Rattle.std.proofs.lemmas.Result.{err_from_is_err_and}
use Rattle.readers.proofs.Items.{no_key, key_comma, key_stops, key_read, key_open}
use Rattle.readers.proofs.key_start.Goals as goal

pub returns-in_err-comma : goal.returns-in_err-comma
returns-in_err-comma c =
    let s = c.args.s.now in
    let p = err_from_is_err_and c.from_residual.result c.from_residual.ensures.1 in
    rw (p.1, p.2) (rw c.in_err-comma.ensures.1 (no_key s c.requires (λ z. c.in_err-comma.ensures.0 z)))

pub returns-in_err-first : goal.returns-in_err-first
returns-in_err-first c =
    let s = c.args.s.now in
    let p = err_from_is_err_and c.from_residual-in_err-first.result c.from_residual-in_err-first.ensures.1 in
    rw (p.1, p.2) (rw (c.in_err-first.ensures.1, c.in_ok-comma.ensures.1) (key_comma s c.in_ok-comma.ensures.0 (rw c.in_ok-comma.ensures.1 at c.in_err-first.ensures.0)))

pub returns-in_err-r : goal.returns-in_err-r
returns-in_err-r c =
    let s = c.args.s.now in
    let first : c.in_ok-first.first ≡ 3 = omega (arith, c.in_ok-comma.ensures, c.in_ok-first.ensures) in
    let comma = rw c.in_ok-comma.ensures.1 at c.in_ok-first.ensures.0 in
    let p = err_from_is_err_and c.from_residual-in_err-r.result c.from_residual-in_err-r.ensures.1 in
    rw (p.1, p.2) (key_stops s c.in_ok-comma.ensures.0 comma _ (rw first at c.in_err-r.ensures))

pub returns-in_err-used : goal.returns-in_err-used
returns-in_err-used c =
    let s = c.args.s.now in
    let first : c.in_ok-first.first ≡ 3 = omega (arith, c.in_ok-comma.ensures, c.in_ok-first.ensures) in
    let comma = rw c.in_ok-comma.ensures.1 at c.in_ok-first.ensures.0 in
    let p = err_from_is_err_and c.from_residual-in_err-used.result c.from_residual-in_err-used.ensures.1 in
    rw (p.1, p.2) (rw c.in_err-used.ensures.1 (key_open s c.in_ok-comma.ensures.0 comma _ _ (rw first at c.in_ok-r.ensures) (λ z. c.in_err-used.ensures.0 z)))

pub returns : goal.returns
returns c =
    let s = c.args.s.now in
    let first : c.in_ok-first.first ≡ 3 = omega (arith, c.in_ok-comma.ensures, c.in_ok-first.ensures) in
    let comma = rw c.in_ok-comma.ensures.1 at c.in_ok-first.ensures.0 in
    rw c.in_ok-used.ensures.1 (key_read s c.in_ok-comma.ensures.0 comma _ _ (rw first at c.in_ok-r.ensures) c.in_ok-used.ensures.0)
