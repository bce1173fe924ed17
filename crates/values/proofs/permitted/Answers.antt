-- Each turn asks of what the field reads, which lies inside the record, what the field asks.
use mathlib.Core.Path.{sym, ◌∙◌}
use native.Mathlib.Omega.{arith}
use Rattle.rules.proofs.Halves.HalfBytes.{all_bytes}
use Rattle.rows.proofs.ReadLaws.{reads_at, length_input}
use Rattle.values.proofs.WalkLaws.{left_more, left_fails, left_end}
use Rattle.values.proofs.CheckLaws.{part_read_row, permits_not, permits_all}
use Rattle.values.proofs.permitted.Goals as goal

pub overflow_sub-from : goal.overflow_sub-from
overflow_sub-from c = omega (arith, reads_at _ _ c.loop-i.i c.requires (omega arith) _ c.field_at-f.ensures)

pub overflow_add-end : goal.overflow_add-end
overflow_add-end c = omega (arith, reads_at _ _ c.loop-i.i c.requires (omega arith) _ c.field_at-f.ensures)

pub slice_bounds-input_permitted-end : goal.slice_bounds-input_permitted-end
slice_bounds-input_permitted-end c = omega (arith, reads_at _ _ c.loop-i.i c.requires (omega arith) _ c.field_at-f.ensures)

pub input_permitted-requires : goal.input_permitted-requires
input_permitted-requires c = let reads = reads_at _ _ c.loop-i.i c.requires (omega arith) _ c.field_at-f.ensures in omega (arith, length_input _ _ reads, reads)

pub returns-then-not-input_permitted : goal.returns-then-not-input_permitted
returns-then-not-input_permitted c =
    let asked = c.input_permitted.ensures c.field_at-f.result.output ∙ part_read_row _ _ c.loop-i.i _ c.field_at-f.ensures (reads_at _ _ c.loop-i.i c.requires (omega arith) _ c.field_at-f.ensures) in
    permits_not _ _ (all_bytes _ (λ i. omega (arith, c.type_inv.«record» i))) (left_fails _ _ c.loop-i.i c.loop-i.invariant (omega arith) (sym asked ∙ c.if-not-input_permitted.true))

pub loop-i-preserved : goal.loop-i-preserved
loop-i-preserved c =
    let asked = c.input_permitted.ensures c.field_at-f.result.output ∙ part_read_row _ _ c.loop-i.i _ c.field_at-f.ensures (reads_at _ _ c.loop-i.i c.requires (omega arith) _ c.field_at-f.ensures) in
    left_more _ _ c.loop-i.i c.loop-i.invariant (omega arith) (sym asked ∙ c.if-not-input_permitted.false)

pub returns : goal.returns
returns c = permits_all _ _ (all_bytes _ (λ i. omega (arith, c.type_inv.«record» i))) (left_end _ _ c.loop-i.i c.loop-i.invariant (omega arith))
