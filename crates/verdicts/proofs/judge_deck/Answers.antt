-- The deck is refused, or of TC or TF; else its plan judges.
use mathlib.Core.Path.{sym}
use Prim.Native.Nat.{◌*◌}
use native.Mathlib.Omega.{arith}
use lib.Seq.{length-take-le}
use Rattle.rows.proofs.RowLaws.{row_none}
use Rattle.plans.proofs.FilledLaws.{plans_long, runnable, front_in}
use Rattle.verdicts.proofs.DeckLaws.{deck_refused, deck_keeps, deck_judged}
use Rattle.verdicts.proofs.judge_deck.Goals as goal

pub plan_deck-plan-requires : goal.plan_deck-plan-requires
plan_deck-plan-requires c =
    sym row_none

pub returns-then-plan-ne0 : goal.returns-then-plan-ne0
returns-then-plan-ne0 c =
    let s = c.args in
    let p = c.plan_deck-plan in
    deck_refused s.deck.now p.result p.new.row p.ensures s.ours.now s.theirs.now c.if-plan-ne0.true _ c.refused_deck.ensures

pub returns-then-not-fills : goal.returns-then-not-fills
returns-then-not-fills c =
    let s = c.args in
    let p = c.plan_deck-plan in
    deck_keeps s.deck.now p.result p.new.row p.ensures s.ours.now s.theirs.now c.if-plan-ne0.false _ c.fills.ensures c.if-not-fills.true _ c.refused.ensures

pub overflow_mul-end : goal.overflow_mul-end
overflow_mul-end c =
    let s = c.args in
    let p = c.plan_deck-plan in
    let w = front_in s.deck.now p.result p.new.row p.ensures c.if-plan-ne0.false in let l = plans_long s.deck.now p.result p.new.row p.ensures in
    record { fits = omega (arith, w, l) }

pub slice_bounds-row-end : goal.slice_bounds-row-end
slice_bounds-row-end c =
    let s = c.args in
    let p = c.plan_deck-plan in
    let w = front_in s.deck.now p.result p.new.row p.ensures c.if-plan-ne0.false in let l = plans_long s.deck.now p.result p.new.row p.ensures in
    omega (arith, w, l)

pub slice_bounds-judge_plan-end : goal.slice_bounds-judge_plan-end
slice_bounds-judge_plan-end c =
    let s = c.args in
    let p = c.plan_deck-plan in
    let w = front_in s.deck.now p.result p.new.row p.ensures c.if-plan-ne0.false in let l = plans_long s.deck.now p.result p.new.row p.ensures in
    sym (length-take-le (5 * p.result.asked.count) p.new.row (omega (arith, w, l)))

pub judge_plan-requires : goal.judge_plan-requires
judge_plan-requires c =
    let s = c.args in
    let p = c.plan_deck-plan in
    runnable s.deck.now p.result p.new.row p.ensures c.if-plan-ne0.false

pub returns : goal.returns
returns c =
    let s = c.args in
    let p = c.plan_deck-plan in
    deck_judged s.deck.now p.result p.new.row p.ensures s.ours.now s.theirs.now c.if-plan-ne0.false _ c.fills.ensures c.if-not-fills.false _ c.judge_plan.ensures
