-- `readers::field_behind` meets its contract: the middle, the comma, the last number.
use Rattle.std.proofs.Common.{refl}
use Rattle.std.proofs.lemmas.Result.{err_from_is_err_and}
use Rattle.rules.specs.Grammar.{start}
use Rattle.terms.specs.Meaning.{part_of}
use Rattle.readers.proofs.Items.{middle_stops, comma_missing, last_stops, field_read, field_placed}
use Rattle.readers.proofs.field_behind.Goals as goal

pub returns-in_err-middle : goal.returns-in_err-middle
returns-in_err-middle c =
    let a = c.args in
    let s = a.s.now in
    let p = err_from_is_err_and c.from_residual.result c.from_residual.ensures.1 in
    rw (p.1, p.2) (middle_stops (start (part_of a.part) a.r) s a.from _ c.in_err-middle.ensures)

pub returns-in_err-last : goal.returns-in_err-last
returns-in_err-last c =
    let a = c.args in
    let s = a.s.now in
    let p = err_from_is_err_and c.from_residual-in_err-last.result c.from_residual-in_err-last.ensures.1 in
    rw (p.1, p.2) (rw c.in_err-last.ensures.1 (comma_missing (start (part_of a.part) a.r) s a.from _ _ c.in_ok-middle.ensures.0 (λ z. c.in_err-last.ensures.0 z)))

pub returns-in_err-t : goal.returns-in_err-t
returns-in_err-t c =
    let a = c.args in
    let s = a.s.now in
    let p = err_from_is_err_and c.from_residual-in_err-t.result c.from_residual-in_err-t.ensures.1 in
    rw (p.1, p.2) (last_stops (start (part_of a.part) a.r) s a.from _ _ c.in_ok-middle.ensures.0 c.in_ok-last.ensures.0 _ (rw c.in_ok-last.ensures.1 at c.in_err-t.ensures))

pub returns : goal.returns
returns c =
    let a = c.args in
    let s = a.s.now in
    let h = c.in_ok-middle.ensures in
    let m = c.in_ok-middle.middle in
    let r = rw c.in_ok-last.ensures.1 at c.in_ok-t.ensures in
    let q = field_placed a.place s a.from m.value.kind _ _ _ h.2 h.4 c.in_ok-last.ensures.0 _ _ r in
    let places = rw (← c.in_ok-last.ensures.1) at q.1 in
    (field_read a.part a.r s a.from _ _ _ _ h.0 c.in_ok-last.ensures.0 _ _ r, h.1, q.0, h.3, places, refl)
