-- Each turn puts a field that lies inside the record and the output over what stands there.
use mathlib.Core.Path.{◌≡◌, ap, sym, ◌∙◌}
use Prim.Native.Nat.{◌*◌}
use native.Mathlib.Omega.{arith}
use lib.ListN.{get_or}
use borrow.Rule.Slice.PartMut.{same_len_mid}
use Rattle.terms.specs.declared.Field.{Field}
use Rattle.rows.specs.Flat.{kind_at}
use Rattle.rows.proofs.ReadLaws.{kind_of_row}
use Rattle.records.proofs.PutLaws.{lies_at, part_within, part_filled, part_put, write_more, write_end}
use Rattle.records.proofs.put_fields.Goals as goal

pub overflow_sub-from : goal.overflow_sub-from
overflow_sub-from c = omega (arith, lies_at c.loop-i.i c.requires c.loop-i.invariant.same c.field_at-f.ensures (omega arith))

pub overflow_add-end : goal.overflow_add-end
overflow_add-end c = omega (arith, lies_at c.loop-i.i c.requires c.loop-i.invariant.same c.field_at-f.ensures (omega arith))

pub overflow_sub-to : goal.overflow_sub-to
overflow_sub-to c = omega (arith, lies_at c.loop-i.i c.requires c.loop-i.invariant.same c.field_at-f.ensures (omega arith))

pub overflow_add-past : goal.overflow_add-past
overflow_add-past c = omega (arith, lies_at c.loop-i.i c.requires c.loop-i.invariant.same c.field_at-f.ensures (omega arith))

pub slice_bounds-put_field-end : goal.slice_bounds-put_field-end
slice_bounds-put_field-end c = omega (arith, lies_at c.loop-i.i c.requires c.loop-i.invariant.same c.field_at-f.ensures (omega arith))

pub slice_bounds-put_field-end-in-loop-i : goal.slice_bounds-put_field-end-in-loop-i
slice_bounds-put_field-end-in-loop-i c = omega (arith, lies_at c.loop-i.i c.requires c.loop-i.invariant.same c.field_at-f.ensures (omega arith))

pub put_field-requires : goal.put_field-requires
put_field-requires c =
    let lies = lies_at c.loop-i.i c.requires c.loop-i.invariant.same c.field_at-f.ensures (omega arith) in
    let named : c.field_at-f.result.kind ≡ kind_at (get_or c.args.fields.now (5 * c.loop-i.i) 0) = ap (λ (f : Field). f.kind) c.field_at-f.ensures ∙ kind_of_row c.args.fields.now c.loop-i.i in
    record { kind_within = rw (sym named) (part_within lies); out_value = rw (sym named) (part_filled lies) }

pub loop-i-preserved : goal.loop-i-preserved
loop-i-preserved c =
    let named : c.field_at-f.result.kind ≡ kind_at (get_or c.args.fields.now (5 * c.loop-i.i) 0) = ap (λ (f : Field). f.kind) c.field_at-f.ensures ∙ kind_of_row c.args.fields.now c.loop-i.i in
    write_more _ _ _ _ c.loop-i.i c.loop-i.invariant (omega arith) _ c.field_at-f.ensures _
    (part_put (lies_at c.loop-i.i c.requires c.loop-i.invariant.same c.field_at-f.ensures (omega arith)) (rw (sym named) at c.put_field.ensures))
    (same_len_mid _ _ _ _ c.put_field.auto.out)

pub returns : goal.returns
returns c = write_end _ _ _ _ c.loop-i.i c.loop-i.invariant (omega arith)
