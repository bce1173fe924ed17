-- A row of zeros holds no field, as the plan asks of it; a deck that is not refused has an accepted plan, whose fields, at most 64, stand in the row.
use mathlib.Core.Path.{sym}
use native.Mathlib.Omega.{arith}
use lib.Seq.{length-take-le}
use Rattle.rows.proofs.RowLaws.{row_none}
use Rattle.plans.proofs.FilledLaws.{plans_long, runnable, front_in}
use Rattle.plan_deck.proofs.whole.Goals as goal

pub plan_deck-p-requires : goal.plan_deck-p-requires
plan_deck-p-requires c = sym row_none

pub overflow_mul-end : goal.overflow_mul-end
overflow_mul-end c =
    let p = c.plan_deck-p in
    let row = p.new.row in
    record { fits = omega (arith, front_in _ p.result row p.ensures c.if-p-ne0.false, plans_long _ p.result row p.ensures) }

pub slice_bounds-row-end : goal.slice_bounds-row-end
slice_bounds-row-end c =
    let p = c.plan_deck-p in
    front_in _ p.result p.new.row p.ensures c.if-p-ne0.false

pub slice_bounds-print-end : goal.slice_bounds-print-end
slice_bounds-print-end c =
    let p = c.plan_deck-p in
    sym (length-take-le _ _ (front_in _ p.result p.new.row p.ensures c.if-p-ne0.false))

pub print-requires : goal.print-requires
print-requires c =
    let p = c.plan_deck-p in
    runnable _ p.result p.new.row p.ensures c.if-p-ne0.false
