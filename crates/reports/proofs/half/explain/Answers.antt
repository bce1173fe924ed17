-- A deck that is not refused has a plan whose fields, at most 64, stand in the row.
use mathlib.Core.Path.{sym}
use native.Mathlib.Omega.{arith}
use lib.Seq.{length-take-le}
use Rattle.rows.proofs.RowLaws.{row_none}
use Rattle.plans.proofs.FilledLaws.{plans_long, front_in}
use Rattle.reports.proofs.half.explain.Goals as goal

pub plan_deck-plan-requires : goal.plan_deck-plan-requires
plan_deck-plan-requires g c = sym row_none

pub overflow_mul-end : goal.overflow_mul-end
overflow_mul-end g c =
    let p = c.plan_deck-plan in
    let row = p.new.row in
    record { fits = omega (arith, front_in _ p.result row p.ensures c.if-plan-ne0.false, plans_long _ p.result row p.ensures) }

pub slice_bounds-row-end : goal.slice_bounds-row-end
slice_bounds-row-end g c =
    let p = c.plan_deck-plan in
    front_in _ p.result p.new.row p.ensures c.if-plan-ne0.false

pub slice_bounds-say_record-end : goal.slice_bounds-say_record-end
slice_bounds-say_record-end g c =
    let p = c.plan_deck-plan in
    sym (length-take-le _ _ (front_in _ p.result p.new.row p.ensures c.if-plan-ne0.false))
