-- `readers::item` meets its contract: CV by its two bytes, a field of the key by its bracket, any other by its numbers.
use Rattle.std.proofs.Common.{arith}
use Rattle.std.proofs.lemmas.Result.{err_from_is_err_and}
use Rattle.rules.proofs.Grammar.ChoiceLaws.{byte_inside, item_is_cv, item_c_else}
use Rattle.readers.proofs.Parts.{not_there}
use Rattle.readers.proofs.Items.{item_goes, item_stops}
use Rattle.readers.proofs.item.Goals as goal

pub returns-in_err-used : goal.returns-in_err-used
returns-in_err-used c =
    let s = c.args.s.now in
    let p = err_from_is_err_and c.from_residual.result c.from_residual.ensures.1 in
    rw (p.1, p.2) (rw c.in_err-used.ensures.1 (omega (arith, byte_inside s 0 67 (c.is_at.ensures.0 c.if-is_at.true) (omega arith)), item_c_else s (c.is_at.ensures.0 c.if-is_at.true) (λ z. c.in_err-used.ensures.0 z)))

pub returns-then-is_at : goal.returns-then-is_at
returns-then-is_at c =
    let s = c.args.s.now in
    let e = c.in_ok-used.ensures in
    (omega (arith, e), rw c.in_ok-used.ensures.1 (item_is_cv s (c.is_at.ensures.0 c.if-is_at.true) c.in_ok-used.ensures.0))

pub returns-in_err-r : goal.returns-in_err-r
returns-in_err-r c =
    let s = c.args.s.now in
    let other = not_there c.is_at.result c.is_at.ensures.1 c.if-is_at.false in
    let bare = not_there c.is_at-2.result c.is_at-2.ensures.1 c.if-is_at-2.false in
    let p = err_from_is_err_and c.from_residual-in_err-r.result c.from_residual-in_err-r.ensures.1 in
    rw (p.1, p.2) (item_stops s other bare _ c.in_err-r.ensures)

pub returns : goal.returns
returns c =
    let s = c.args.s.now in
    let other = not_there c.is_at.result c.is_at.ensures.1 c.if-is_at.false in
    let bare = not_there c.is_at-2.result c.is_at-2.ensures.1 c.if-is_at-2.false in
    item_goes s other bare _ _ c.in_ok-r.ensures c.field_behind.result c.field_behind.ensures
