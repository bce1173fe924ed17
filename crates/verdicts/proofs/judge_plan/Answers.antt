-- In FS by the numbers of the plan; else by its task, and its fields, which are lent as they are.
use mathlib.Core.Path.{sym, ◌∙◌}
use Rattle.rules.specs.Lent.{zone_f}
use Rattle.terms.specs.Meaning.{plan_in}
use Rattle.rows.specs.Kept.{fields_in}
use Rattle.checks.proofs.GivenLaws.{given_plan, spans_fair}
use Rattle.verdicts.proofs.DeckLaws.{spanning}
use Rattle.verdicts.proofs.judge_plan.Goals as goal

pub in_spans-requires : goal.in_spans-requires
in_spans-requires c =
    let e = sym c.is_fs.ensures ∙ c.if-is_fs.true in
    let w = spans_fair c.args.asked c.args.fields.now c.requires e in
    rw (c.block_length-m.ensures, c.block_length-g.ensures) (w.2, w.1, w.3, w.4)

pub returns-then-is_fs : goal.returns-then-is_fs
returns-then-is_fs c =
    let e = sym c.is_fs.ensures ∙ c.if-is_fs.true in
    c.in_spans.ensures.is (plan_in zone_f c.args.asked (fields_in c.args.fields.now)) (spanning c.requires e _ _ c.block_length-g.ensures c.block_length-m.ensures)

pub in_blocks-requires : goal.in_blocks-requires
in_blocks-requires c =
    let e = sym c.is_fs.ensures ∙ c.if-is_fs.false in
    record { p = plan_in zone_f c.args.asked (fields_in c.args.fields.now); given = given_plan c.requires e _ c.task_of-task.ensures }

pub returns : goal.returns
returns c =
    let e = sym c.is_fs.ensures ∙ c.if-is_fs.false in
    c.in_blocks.ensures.is (plan_in zone_f c.args.asked (fields_in c.args.fields.now)) (given_plan c.requires e _ c.task_of-task.ensures)
