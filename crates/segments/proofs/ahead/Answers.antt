-- The walk holds a spot within the record, and how much of it is passed; no record is longer than 32,752 bytes, and each segment has a byte or more.
use native.Mathlib.Omega.{arith}
use Rattle.segments.proofs.AheadLaws.{walking_start, walking_block, walking_some, walking_few, walking_end, walking_more}
use Rattle.segments.proofs.ahead.Goals as goal

pub loop-at-init : goal.loop-at-init
loop-at-init c = walking_start c.requires

pub next-read-requires : goal.next-read-requires
next-read-requires c = walking_block c.loop-at.invariant

pub overflow_sub-left : goal.overflow_sub-left
overflow_sub-left c = omega (arith, walking_some c.loop-at.invariant _ c.next-read.ensures)

pub passed-at-requires : goal.passed-at-requires
passed-at-requires c = omega (arith, walking_some c.loop-at.invariant _ c.next-read.ensures)

pub overflow_add-size : goal.overflow_add-size
overflow_add-size c = omega (arith, walking_few c.loop-at.invariant _ c.next-read.ensures)

pub returns-then-read : goal.returns-then-read
returns-then-read c = walking_end c.loop-at.invariant _ c.next-read.ensures c.if-read.true _ c.passed-at.ensures

pub loop-at-smaller : goal.loop-at-smaller
loop-at-smaller c =
    omega (arith, walking_some c.loop-at.invariant _ c.next-read.ensures, walking_few c.loop-at.invariant _ c.next-read.ensures)

pub loop-at-preserved : goal.loop-at-preserved
loop-at-preserved c = walking_more c.loop-at.invariant _ c.next-read.ensures c.if-read.false _ c.passed-at.ensures
