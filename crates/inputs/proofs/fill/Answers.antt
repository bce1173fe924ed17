-- What was read lies within the room, which keeps its length, and is what the reads so far brought.
use native.Mathlib.Omega.{arith}
use borrow.Author.Rules.{rules}
use Rattle.inputs.proofs.ReadingLaws.{left_behind, filled_more, filled_failed, filled_all}
use Rattle.inputs.proofs.fill.Goals as goal

pub returns-in-Ok-eq0-clause-fill_says : goal.returns-in-Ok-eq0-clause-fill_says
returns-in-Ok-eq0-clause-fill_says g c = filled_all _ c.loop-at.at c.loop-at.invariant.2

pub loop-at-preserved : goal.loop-at-preserved
loop-at-preserved g c =
    let l = c.loop-at in
    (search rules, search rules, filled_more _ l.at l.invariant.2 c.in-Ok.n c.in-Ok.n-test.1 (omega (arith, c.in-Ok.ensures.bound.0, c.read.auto.buf, left_behind l.room l.at _ l.invariant.1)))

pub returns-in-Err-clause-fill_says : goal.returns-in-Err-clause-fill_says
returns-in-Err-clause-fill_says g c = filled_failed _ c.loop-at.at c.loop-at.invariant.2 c.in-Err.why

pub returns-clause-fill_says : goal.returns-clause-fill_says
returns-clause-fill_says g c = filled_all _ c.loop-at.at c.loop-at.invariant.2
