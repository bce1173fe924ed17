-- `readers::sizes_behind` meets its contract: the comma, the first size with its comma, and the second with its bracket.
use Rattle.std.proofs.lemmas.Result.{err_from_is_err_and}
use Rattle.terms.specs.Meaning.{kind_of}
use Rattle.readers.proofs.Items.{one_size, no_comma, first_stops, second_stops, both_read, both_placed}
use Rattle.readers.proofs.sizes_behind.Goals as goal

pub returns-in_err-first : goal.returns-in_err-first
returns-in_err-first c =
    let a = c.args in
    let s = a.s.now in
    let p = err_from_is_err_and c.from_residual.result c.from_residual.ensures.1 in
    rw (p.1, p.2) (rw c.in_err-first.ensures.1 (no_comma (kind_of a.kind) s a.from c.requires.0 (λ z. c.in_err-first.ensures.0 z)))

pub returns-in_err-n : goal.returns-in_err-n
returns-in_err-n c =
    let a = c.args in
    let s = a.s.now in
    let p = err_from_is_err_and c.from_residual-in_err-n.result c.from_residual-in_err-n.ensures.1 in
    rw (p.1, p.2) (first_stops (kind_of a.kind) s a.from c.in_ok-first.ensures.0 _ (rw c.in_ok-first.ensures.1 at c.in_err-n.ensures))

pub returns-in_err-m : goal.returns-in_err-m
returns-in_err-m c =
    let a = c.args in
    let s = a.s.now in
    let p = err_from_is_err_and c.from_residual-in_err-m.result c.from_residual-in_err-m.ensures.1 in
    rw (p.1, p.2) (second_stops (kind_of a.kind) s a.from c.in_ok-first.ensures.0 _ _ _ (rw c.in_ok-first.ensures.1 at c.in_ok-n.ensures) c.in_err-m.ensures)

pub returns : goal.returns
returns c =
    let a = c.args in
    let s = a.s.now in
    let n = rw c.in_ok-first.ensures.1 at c.in_ok-n.ensures in
    let z = both_placed (kind_of a.kind) s a.from c.in_ok-first.ensures.0 _ _ _ _ n c.in_ok-m.ensures a.kind c.requires.1 in
    rw c.in_ok-first.ensures.1 (both_read (kind_of a.kind) s a.from c.in_ok-first.ensures.0 _ _ _ _ n c.in_ok-m.ensures, one_size a.kind c.requires.1 _ _, z.0, z.1, z.2)
