-- The walk over the offsets holds the count, the number of an offset and the offset; each way out is a law of the header.
use mathlib.Core.Path.{◌∙◌}
use native.Mathlib.Omega.{arith}
use Rattle.rules.proofs.Reel.HeaderSteps.{too_long, too_short, count_too_high, first_wrong, walk_start, walk_step, walk_not, walk_end}
use Rattle.reels.proofs.HeaderLaws.{no_reel, header_said}
use Rattle.reels.proofs.header.Goals as goal
use Rattle.reels.proofs.header.Goals.{then-end-gt65536-via-then-end-gt65536, then-end-gt65536-via-else-end-gt65536+then-end-lt8}

pub returns-then-end-gt65536 : goal.returns-then-end-gt65536
returns-then-end-gt65536 c =
    elim c.then-end-gt65536.branch [
      | then-end-gt65536-via-then-end-gt65536 w ↦ no_reel _ (too_long _ w.if-end-gt65536.true)
      | then-end-gt65536-via-else-end-gt65536+then-end-lt8 w ↦ no_reel _ (too_short _ w.if-end-lt8.true)
    ]

pub returns-then-count-end : goal.returns-then-count-end
returns-then-count-end c = no_reel _ (count_too_high _ (omega arith) (omega arith))

pub returns-then-a-count : goal.returns-then-a-count
returns-then-a-count c = no_reel _ (first_wrong _ (omega arith) (λ e. c.if-a-count.true (omega arith)))

pub loop-i-init : goal.loop-i-init
loop-i-init c = walk_start _ _ _ (omega arith) (omega arith) c.word-count.ensures.0 (omega arith) c.word-a.ensures.0 c.if-a-count.false

pub overflow_mul-i : goal.overflow_mul-i
overflow_mul-i c = omega (arith, c.loop-i.invariant.there)

pub overflow_add-i : goal.overflow_add-i
overflow_add-i c = omega (arith, c.loop-i.invariant.there)

pub word-b-requires : goal.word-b-requires
word-b-requires c = omega (arith, c.loop-i.invariant.there)

pub returns-then-b-a : goal.returns-then-b-a
returns-then-b-a c = no_reel _ (walk_not c.loop-i.invariant _ c.loop-i-test.true c.word-b.ensures.0 c.if-b-a.true)

pub loop-i-preserved : goal.loop-i-preserved
loop-i-preserved c = walk_step c.loop-i.invariant _ c.loop-i-test.true c.word-b.ensures.0 c.if-b-a.false

pub returns : goal.returns
returns c = c.then_some.ensures ∙ header_said _ _ _ (walk_end c.loop-i.invariant c.loop-i-test.false) c.loop-i.invariant.count
