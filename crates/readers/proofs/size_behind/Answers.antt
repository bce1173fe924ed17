-- `readers::size_behind` meets its contract: by the byte behind the number.
use Rattle.std.proofs.lemmas.Result.{err_from_is_err_and}
use Rattle.rules.proofs.Grammar.ChoiceLaws.{size_neither}
use Rattle.readers.proofs.Parts.{not_there}
use Rattle.readers.proofs.Parameters.{only_read, second_read, second_stop}
use Rattle.readers.proofs.size_behind.Goals as goal

pub returns-then-is_at : goal.returns-then-is_at
returns-then-is_at c =
    let a = c.args in
    let s = a.s.now in
    only_read s a.from a.n (c.is_at.ensures.0 c.if-is_at.true)

pub returns-in_err-second : goal.returns-in_err-second
returns-in_err-second c =
    let a = c.args in
    let s = a.s.now in
    let p = err_from_is_err_and c.from_residual.result c.from_residual.ensures.1 in
    rw (p.1, p.2) (rw c.in_err-second.ensures.1 (c.requires, size_neither s a.from a.n (λ z. c.in_err-second.ensures.0 z) (not_there c.is_at.result c.is_at.ensures.1 c.if-is_at.false)))

pub returns-in_err-m : goal.returns-in_err-m
returns-in_err-m c =
    let a = c.args in
    let s = a.s.now in
    let p = err_from_is_err_and c.from_residual-in_err-m.result c.from_residual-in_err-m.ensures.1 in
    rw (p.1, p.2) (second_stop s a.from a.n c.in_ok-second.ensures.0 _ (rw c.in_ok-second.ensures.1 at c.in_err-m.ensures))

pub returns : goal.returns
returns c =
    let a = c.args in
    let s = a.s.now in
    rw c.in_ok-second.ensures.1 (second_read s a.from a.n c.in_ok-second.ensures.0 _ _ (rw c.in_ok-second.ensures.1 at c.in_ok-m.ensures))
