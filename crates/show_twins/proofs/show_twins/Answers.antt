-- A deck that is not refused has an accepted plan, whose fields, at most 64, stand in the row.
use mathlib.Core.Path.{sym}
use native.Mathlib.Omega.{arith}
use lib.Seq.{length-take-le}
use Rattle.rows.proofs.RowLaws.{row_none}
use Rattle.plans.proofs.FilledLaws.{plans_long, runnable, front_in}
use Rattle.show_twins.proofs.show_twins.Goals as goal

pub plan_deck-plan-requires : goal.plan_deck-plan-requires
plan_deck-plan-requires c = sym row_none

pub overflow_mul-end : goal.overflow_mul-end
overflow_mul-end c =
    let p = c.plan_deck-plan in
    let row = p.new.row in
    let z = c.if-plan-eq0.true in
    record { fits = omega (arith, front_in _ p.result row p.ensures z, plans_long _ p.result row p.ensures) }

pub slice_bounds-row-end : goal.slice_bounds-row-end
slice_bounds-row-end c =
    let p = c.plan_deck-plan in
    front_in _ p.result p.new.row p.ensures c.if-plan-eq0.true

pub slice_bounds-show-end : goal.slice_bounds-show-end
slice_bounds-show-end c =
    let p = c.plan_deck-plan in
    sym (length-take-le _ _ (front_in _ p.result p.new.row p.ensures c.if-plan-eq0.true))

pub show-requires : goal.show-requires
show-requires c =
    let p = c.plan_deck-plan in
    runnable _ p.result p.new.row p.ensures c.if-plan-eq0.true
