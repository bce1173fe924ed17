-- `readers::input` meets its contract: by the bracket and the letter behind it.
use Rattle.std.proofs.Common.{◌≡◌, ◌+◌, get_or}
use Rattle.std.proofs.lemmas.Result.{err_from_is_err_and}
use Rattle.readers.proofs.Parts.{not_there}
use Rattle.readers.proofs.Parameters.{input_goes, plain_read, plain_stops}
use Rattle.readers.proofs.input.Goals.{else-is_at-via-then-is_at+else-is_at-2, else-is_at-via-else-is_at}
use Rattle.readers.proofs.input.Goals as goal

pub returns-then-is_at-2 : goal.returns-then-is_at-2
returns-then-is_at-2 c =
    let a = c.args in
    let s = a.s.now in
    input_goes s a.from (c.is_at.ensures.0 c.if-is_at.true) (c.is_at-then-is_at.ensures.0 c.if-is_at-2.true) c.keyed_behind.result c.keyed_behind.ensures

pub returns-in_err-given : goal.returns-in_err-given
returns-in_err-given c =
    let a = c.args in
    let s = a.s.now in
    let other : get_or s a.from 256 ≡ 40 → get_or s (a.from + 1) 256 ≡ 75 → ⊥ = λ o k. elim c.else-is_at.branch [ else-is_at-via-then-is_at+else-is_at-2 w ↦ not_there w.is_at-then-is_at.result w.is_at-then-is_at.ensures.1 w.if-is_at-2.false k | else-is_at-via-else-is_at w ↦ not_there c.is_at.result c.is_at.ensures.1 w.if-is_at.false o ] in
    let p = err_from_is_err_and c.from_residual.result c.from_residual.ensures.1 in
    rw (p.1, p.2) (plain_stops s a.from other _ c.in_err-given.ensures)

pub returns : goal.returns
returns c =
    let a = c.args in
    let s = a.s.now in
    let other : get_or s a.from 256 ≡ 40 → get_or s (a.from + 1) 256 ≡ 75 → ⊥ = λ o k. elim c.else-is_at.branch [ else-is_at-via-then-is_at+else-is_at-2 w ↦ not_there w.is_at-then-is_at.result w.is_at-then-is_at.ensures.1 w.if-is_at-2.false k | else-is_at-via-else-is_at w ↦ not_there c.is_at.result c.is_at.ensures.1 w.if-is_at.false o ] in
    plain_read s a.from other c.in_ok-given.given c.in_ok-given.ensures
