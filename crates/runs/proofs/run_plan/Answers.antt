-- In FS the run of its own, by the numbers of the plan; else the plan's numbers, and then the run over its fields, which are lent as they are.
use mathlib.Core.Path.{ap, sym, ◌∙◌}
use Rattle.rules.specs.Run.{RunOutput}
use Rattle.rules.specs.Answer.{Answer}
use Rattle.rules.specs.Lent.{zone_f, run_answer, output_after}
use Rattle.terms.specs.Meaning.{plan_in}
use Rattle.rows.specs.Kept.{fields_in}
use Rattle.outcomes.specs.Promise.{ran_struct}
use lib.ListN.{length}
use Rattle.checks.proofs.GivenLaws.{given_plan, spans_fair}
use Rattle.runs.proofs.WriteLaws.{by_blocks, by_spans}
use Rattle.runs.proofs.run_plan.Goals as goal

pub run_spanned-requires : goal.run_spanned-requires
run_spanned-requires c =
    let e = sym c.is_fs.ensures ∙ c.if-is_fs.true in
    rw (c.block_length-m.ensures, c.block_length-g.ensures) (spans_fair c.args.asked c.args.fields.now c.requires e)

pub returns-then-is_fs : goal.returns-then-is_fs
returns-then-is_fs c =
    let e = sym c.is_fs.ensures ∙ c.if-is_fs.true in
    let q
    = by_spans c.args.asked c.args.fields.now e _ _ _ c.is_tc-copies.ensures
    c.block_length-g.ensures c.block_length-m.ensures (length c.args.out.now) c.args.reel.now in
    record { answer = c.run_spanned.ensures.answer ∙ ap (λ (x : Answer RunOutput). ran_struct (run_answer x)) q; output = c.run_spanned.ensures.output ∙ ap (output_after c.args.out.now) q }

pub run-requires : goal.run-requires
run-requires c =
    let e = sym c.is_fs.ensures ∙ c.if-is_fs.false in
    record { p = plan_in zone_f c.args.asked (fields_in c.args.fields.now); given = given_plan c.requires e _ c.task_of-task.ensures }

pub returns : goal.returns
returns c =
    let e = sym c.is_fs.ensures ∙ c.if-is_fs.false in
    let p = plan_in zone_f c.args.asked (fields_in c.args.fields.now) in
    let g = given_plan c.requires e _ c.task_of-task.ensures in
    let q = by_blocks c.args.asked c.args.fields.now e (length c.args.out.now) c.args.reel.now in
    record { answer = c.run.ensures.answer p g ∙ ap (λ (x : Answer RunOutput). ran_struct (run_answer x)) q; output = c.run.ensures.output p g ∙ ap (output_after c.args.out.now) q }
