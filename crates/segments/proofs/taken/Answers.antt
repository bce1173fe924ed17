-- Each turn passes over one record.
use Rattle.segments.proofs.TakenLaws.{passing_start, passing_next, passing_more, passing_end}
use Rattle.segments.proofs.taken.Goals as goal

pub loop-init : goal.loop-init
loop-init c = passing_start c.requires

pub ahead-requires : goal.ahead-requires
ahead-requires c = passing_next c.loop.invariant c.loop-test.true

pub loop-preserved : goal.loop-preserved
loop-preserved c = passing_more c.loop.invariant c.loop-test.true _ c.ahead.ensures

pub returns : goal.returns
returns c = passing_end c.loop.invariant c.loop-test.false
