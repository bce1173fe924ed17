-- By the place where R starts, what is left of the reel there, and the blocks that its records make.
use mathlib.Core.Path.{◌≡◌, ap, ◌∙◌}
use native.Mathlib.Omega.{arith}
use lib.ListN.{length}
use Rattle.pieces.specs.declared.Form.{Form}
use Rattle.walks.specs.Walking.{fixed_start}
use Rattle.tasks.specs.Promise.{form_of}
use Rattle.measures.proofs.FixedMeasure.{fixed_from, fixed_measures, bytes_small}
use Rattle.measures.proofs.measure_fixed.Goals as goal

pub fixed_blocks-blocks-requires : goal.fixed_blocks-blocks-requires
fixed_blocks-blocks-requires c =
    let start : c.fixed_start-from.result ≡ fixed_start (form_of c.args.task) c.args.reel.now c.args.task.first = c.fixed_start-from.ensures ∙ ap (λ (f : Form). fixed_start f c.args.reel.now c.args.task.first) c.form_of.ensures in
    fixed_from c.requires.measurable c.requires.format_value start _ (ap length c.rest.ensures)

pub overflow_mul-result-2 : goal.overflow_mul-result-2
overflow_mul-result-2 c =
    let start : c.fixed_start-from.result ≡ fixed_start (form_of c.args.task) c.args.reel.now c.args.task.first = c.fixed_start-from.ensures ∙ ap (λ (f : Form). fixed_start f c.args.reel.now c.args.task.first) c.form_of.ensures in
    omega (arith, bytes_small c.requires.measurable c.requires.format_value start _ (ap length c.rest.ensures))

pub overflow_add-result-2 : goal.overflow_add-result-2
overflow_add-result-2 c =
    let start : c.fixed_start-from.result ≡ fixed_start (form_of c.args.task) c.args.reel.now c.args.task.first = c.fixed_start-from.ensures ∙ ap (λ (f : Form). fixed_start f c.args.reel.now c.args.task.first) c.form_of.ensures in
    omega (arith, c.fixed_blocks-blocks.ensures.few, bytes_small c.requires.measurable c.requires.format_value start _ (ap length c.rest.ensures))

pub returns : goal.returns
returns c =
    let start : c.fixed_start-from.result ≡ fixed_start (form_of c.args.task) c.args.reel.now c.args.task.first = c.fixed_start-from.ensures ∙ ap (λ (f : Form). fixed_start f c.args.reel.now c.args.task.first) c.form_of.ensures in
    fixed_measures c.requires.measurable c.requires.format_value start _ _ (ap length c.rest.ensures) c.fixed_blocks-blocks.ensures
