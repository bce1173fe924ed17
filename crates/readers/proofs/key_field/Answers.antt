-- `readers::key_field` meets its contract: by what stands behind the bracket.
use Rattle.std.proofs.lemmas.Result.{err_from_is_err_and}
use Rattle.readers.proofs.Items.{key_goes, key_item_stops}
use Rattle.readers.proofs.key_field.Goals as goal

pub returns-in_err-r : goal.returns-in_err-r
returns-in_err-r c =
    let s = c.args.s.now in
    let p = err_from_is_err_and c.from_residual.result c.from_residual.ensures.1 in
    rw (p.1, p.2) (key_item_stops s c.requires _ c.in_err-r.ensures)

pub returns : goal.returns
returns c =
    let s = c.args.s.now in
    key_goes s c.requires _ _ c.in_ok-r.ensures c.field_behind.result c.field_behind.ensures
