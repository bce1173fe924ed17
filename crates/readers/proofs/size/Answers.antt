-- `readers::size` meets its contract: the bracket, the number, and what is behind it.
use Rattle.std.proofs.lemmas.Result.{err_from_is_err_and}
use Rattle.rules.proofs.Grammar.ChoiceLaws.{size_none}
use Rattle.readers.proofs.Parameters.{size_goes, size_stops}
use Rattle.readers.proofs.size.Goals as goal

pub returns-in_err-first : goal.returns-in_err-first
returns-in_err-first c =
    let a = c.args in
    let s = a.s.now in
    let p = err_from_is_err_and c.from_residual.result c.from_residual.ensures.1 in
    rw (p.1, p.2) (rw c.in_err-first.ensures.1 (c.requires, size_none s a.from (λ z. c.in_err-first.ensures.0 z)))

pub returns-in_err-n : goal.returns-in_err-n
returns-in_err-n c =
    let a = c.args in
    let s = a.s.now in
    let p = err_from_is_err_and c.from_residual-in_err-n.result c.from_residual-in_err-n.ensures.1 in
    rw (p.1, p.2) (size_stops s a.from c.in_ok-first.ensures.0 _ (rw c.in_ok-first.ensures.1 at c.in_err-n.ensures))

pub returns : goal.returns
returns c =
    let a = c.args in
    let s = a.s.now in
    size_goes s a.from c.in_ok-first.ensures.0 _ _ (rw c.in_ok-first.ensures.1 at c.in_ok-n.ensures) c.size_behind.result c.size_behind.ensures
