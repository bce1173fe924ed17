-- The deck's refusal where it is refused; else the run of its plan, which the rules' run is then.
use mathlib.Core.Path.{ap, sym, ◌∙◌}
use Prim.Native.Nat.{◌*◌}
use native.Mathlib.Omega.{arith}
use lib.ListN.{length}
use lib.Seq.{length-take-le}
use Rattle.rules.specs.Answer.{Answer}
use Rattle.rules.specs.Run.{RunOutput}
use Rattle.rules.specs.Lent.{run_answer, output_after}
use Rattle.rows.proofs.RowLaws.{row_none}
use Rattle.plans.proofs.FilledLaws.{plans_long, runnable, front_in}
use Rattle.outcomes.specs.Promise.{ran_struct}
use Rattle.bhexodana.proofs.RunLaws.{run_refused, run_accepted}
use Rattle.bhexodana.proofs.bhx_run.Goals as goal

pub plan_deck-p-requires : goal.plan_deck-p-requires
plan_deck-p-requires c = sym row_none

pub returns-then-p-ne0 : goal.returns-then-p-ne0
returns-then-p-ne0 c =
    let a = c.args in
    let p = c.plan_deck-p in
    let e = run_refused a.deck.now p.result p.new.row p.ensures c.if-p-ne0.true (length a.out.now) a.reel.now in
    record { answer = c.refused.ensures ∙ ap (λ (x : Answer RunOutput). ran_struct (run_answer x)) (sym e); output = ap (output_after a.out.now) (sym e) }

pub overflow_mul-end : goal.overflow_mul-end
overflow_mul-end c =
    let deck = c.args.deck.now in
    let p = c.plan_deck-p in
    record { fits = omega (arith, front_in deck p.result p.new.row p.ensures c.if-p-ne0.false, plans_long deck p.result p.new.row p.ensures) }

pub slice_bounds-row-end : goal.slice_bounds-row-end
slice_bounds-row-end c =
    let deck = c.args.deck.now in
    let p = c.plan_deck-p in
    omega (arith, front_in deck p.result p.new.row p.ensures c.if-p-ne0.false, plans_long deck p.result p.new.row p.ensures)

pub slice_bounds-run_plan-end : goal.slice_bounds-run_plan-end
slice_bounds-run_plan-end c =
    let p = c.plan_deck-p in
    sym (length-take-le (5 * p.result.asked.count) p.new.row (front_in c.args.deck.now p.result p.new.row p.ensures c.if-p-ne0.false))

pub run_plan-requires : goal.run_plan-requires
run_plan-requires c =
    let p = c.plan_deck-p in
    runnable c.args.deck.now p.result p.new.row p.ensures c.if-p-ne0.false

pub returns : goal.returns
returns c =
    let a = c.args in
    let p = c.plan_deck-p in
    let r = c.run_plan in
    let e = run_accepted a.deck.now p.result p.new.row p.ensures c.if-p-ne0.false (length a.out.now) a.reel.now in
    record { answer = r.ensures.answer ∙ ap (λ (x : Answer RunOutput). ran_struct (run_answer x)) (sym e); output = r.ensures.output ∙ ap (output_after a.out.now) (sym e) }
