-- Each turn compares bytes of one segment of each reel, behind those that are equal so far.
use native.Mathlib.Omega.{arith}
use Rattle.segments.proofs.SameLaws.{comparing_start, comparing_block, comparing_one, comparing_other, comparing_size, comparing_room, comparing_more, comparing_end, comparing_no}
use Rattle.segments.proofs.same.Goals as goal

pub loop-done-init : goal.loop-done-init
loop-done-init c = comparing_start c.requires

pub on_data-here-requires : goal.on_data-here-requires
on_data-here-requires c = (comparing_block c.loop-done.invariant).0

pub on_data-other-requires : goal.on_data-other-requires
on_data-other-requires c = (comparing_block c.loop-done.invariant).1

pub overflow_sub-here : goal.overflow_sub-here
overflow_sub-here c =
    omega (arith, comparing_one c.loop-done.invariant c.loop-done-test.true _ c.on_data-here.ensures)

pub overflow_sub-other : goal.overflow_sub-other
overflow_sub-other c =
    omega (arith, comparing_other c.loop-done.invariant c.loop-done-test.true _ c.on_data-here.ensures _ c.on_data-other.ensures)

pub same_part-requires : goal.same_part-requires
same_part-requires c =
    comparing_room c.loop-done.invariant c.loop-done-test.true _ c.on_data-here.ensures _ c.on_data-other.ensures _ c.min-both.ensures _ c.min-size.ensures

pub returns-then-not-same_part : goal.returns-then-not-same_part
returns-then-not-same_part c =
    comparing_no c.loop-done.invariant c.loop-done-test.true _ c.on_data-here.ensures _ c.on_data-other.ensures _ c.min-both.ensures _ c.min-size.ensures c.same_part.ensures c.if-not-same_part.true

pub passed-at-requires : goal.passed-at-requires
passed-at-requires c =
    (comparing_size c.loop-done.invariant c.loop-done-test.true _ c.on_data-here.ensures _ c.on_data-other.ensures _ c.min-both.ensures _ c.min-size.ensures).1

pub passed-there-requires : goal.passed-there-requires
passed-there-requires c =
    (comparing_size c.loop-done.invariant c.loop-done-test.true _ c.on_data-here.ensures _ c.on_data-other.ensures _ c.min-both.ensures _ c.min-size.ensures).2

pub overflow_add-done : goal.overflow_add-done
overflow_add-done c =
    omega (arith, (comparing_size c.loop-done.invariant c.loop-done-test.true _ c.on_data-here.ensures _ c.on_data-other.ensures _ c.min-both.ensures _ c.min-size.ensures).3, c.ranges.n.fits)

pub loop-done-smaller : goal.loop-done-smaller
loop-done-smaller c =
    let k = comparing_size c.loop-done.invariant c.loop-done-test.true _ c.on_data-here.ensures _ c.on_data-other.ensures _ c.min-both.ensures _ c.min-size.ensures in
    omega (arith, k.0, k.3)

pub loop-done-preserved : goal.loop-done-preserved
loop-done-preserved c =
    comparing_more c.loop-done.invariant c.loop-done-test.true _ c.on_data-here.ensures _ c.on_data-other.ensures _ c.min-both.ensures _ c.min-size.ensures c.same_part.ensures c.if-not-same_part.false _ c.passed-at.ensures _ c.passed-there.ensures

pub returns : goal.returns
returns c = comparing_end c.loop-done.invariant c.loop-done-test.false
