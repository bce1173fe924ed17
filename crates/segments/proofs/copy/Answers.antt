-- Each turn puts bytes of one segment behind those before.
use native.Mathlib.Omega.{arith}
use lib.ListN.{length}
use borrow.Rule.Slice.PartMut.{mid_len}
use Rattle.segments.proofs.CopyLaws.{copying_start, copying_length, copying_block, copying_some, copying_size, copying_room, copying_more, copying_end}
use Rattle.segments.proofs.copy.Goals as goal

pub loop-done-init : goal.loop-done-init
loop-done-init c = copying_start c.requires

pub on_data-here-requires : goal.on_data-here-requires
on_data-here-requires c = copying_block c.loop-done.invariant

pub overflow_sub-here : goal.overflow_sub-here
overflow_sub-here c = omega (arith, copying_some c.loop-done.invariant c.loop-done-test.true _ c.on_data-here.ensures)

pub slice_bounds-put-count : goal.slice_bounds-put-count
slice_bounds-put-count c =
    omega (arith, (copying_room c.loop-done.invariant c.loop-done-test.true _ c.on_data-here.ensures _ c.min-size.ensures).2)

pub slice_bounds-put-start : goal.slice_bounds-put-start
slice_bounds-put-start c =
    omega (arith, (copying_room c.loop-done.invariant c.loop-done-test.true _ c.on_data-here.ensures _ c.min-size.ensures).2)

pub put-requires : goal.put-requires
put-requires c =
    let out = c.loop-done.out in
    let done = c.loop-done.done in
    let r = copying_room c.loop-done.invariant c.loop-done-test.true _ c.on_data-here.ensures _ c.min-size.ensures in
    (r.0, r.1, omega (arith, r.2, mid_len done (length out) out (omega arith)))

pub passed-at-requires : goal.passed-at-requires
passed-at-requires c =
    (copying_size c.loop-done.invariant c.loop-done-test.true _ c.on_data-here.ensures _ c.min-size.ensures).1

pub overflow_add-done : goal.overflow_add-done
overflow_add-done c =
    omega (arith, (copying_size c.loop-done.invariant c.loop-done-test.true _ c.on_data-here.ensures _ c.min-size.ensures).2)

pub loop-done-smaller : goal.loop-done-smaller
loop-done-smaller c =
    let z = copying_size c.loop-done.invariant c.loop-done-test.true _ c.on_data-here.ensures _ c.min-size.ensures in
    omega (arith, z.0, z.2)

pub loop-done-preserved : goal.loop-done-preserved
loop-done-preserved c =
    copying_more c.loop-done.invariant c.loop-done-test.true _ c.on_data-here.ensures _ c.min-size.ensures _ c.put.ensures _ c.passed-at.ensures

pub shape_of-out : goal.shape_of-out
shape_of-out c = copying_length c.loop-done.invariant

pub returns : goal.returns
returns c = copying_end c.loop-done.invariant c.loop-done-test.false
