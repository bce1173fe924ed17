-- Each turn tallies one record more; a walk ends since less of the reel is left at each turn.
use native.Mathlib.Omega.{arith}
use mathlib.Core.Path.{subst}
use Rattle.fillings.proofs.TallyLaws.{empty_is}
use Rattle.measures.proofs.GoLaws.{Going, go_start, go_bytes, go_short, go_small, go_stop, go_more, go_end, go_stands}
use Rattle.measures.proofs.measure_walked.Goals as goal

pub loop-read-init : goal.loop-read-init
loop-read-init c =
    subst (Going c.args.task c.args.reel.now c.taken-walk.result c.args.task.first) (empty_is c.default-tally.ensures)
    (go_start c.args.task c.form_of-form.ensures c.taken-walk.ensures)

pub record-requires : goal.record-requires
record-requires c = go_stands c.form_of-form.ensures c.loop-read.invariant c.requires

pub output_length-n-requires : goal.output_length-n-requires
output_length-n-requires c =
    go_short c.args.task c.form_of-form.ensures c.loop-read.invariant c.in-Some.ensures
    c.requires

pub tallied-more-requires : goal.tallied-more-requires
tallied-more-requires c =
    go_small c.args.task c.form_of-form.ensures c.loop-read.invariant c.in-Some.ensures
    c.requires _ c.output_length-n.ensures

pub returns-then-more-task : goal.returns-then-more-task
returns-then-more-task c =
    go_stop c.args.task c.form_of-form.ensures c.loop-read.invariant c.in-Some.ensures
    c.requires _ c.output_length-n.ensures _ c.tallied-more.ensures (omega (arith, c.if-more-task.true))

pub loop-read-preserved : goal.loop-read-preserved
loop-read-preserved c =
    go_more c.args.task c.form_of-form.ensures c.loop-read.invariant c.in-Some.ensures
    c.requires _ c.output_length-n.ensures _ c.tallied-more.ensures (omega (arith, c.if-more-task.false))

pub overflow_mul-result : goal.overflow_mul-result
overflow_mul-result c =
    let g = go_bytes c.args.task c.form_of-form.ensures c.loop-read.invariant c.requires in omega (arith, g.0)

pub overflow_add-result-2 : goal.overflow_add-result-2
overflow_add-result-2 c =
    let g = go_bytes c.args.task c.form_of-form.ensures c.loop-read.invariant c.requires in omega (arith, g.0)

pub overflow_add-result : goal.overflow_add-result
overflow_add-result c =
    let g = go_bytes c.args.task c.form_of-form.ensures c.loop-read.invariant c.requires in omega (arith, g.0, g.1)

pub returns : goal.returns
returns c =
    go_end c.args.task c.form_of-form.ensures c.loop-read.invariant c.in_default.ensures
