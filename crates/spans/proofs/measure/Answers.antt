-- Each turn tallies one record more, by its length alone.
use native.Mathlib.Omega.{arith}
use Rattle.spans.proofs.WalkLaws.{passes_start, passes_coming, passes_turn, turn_small, turn_passes, measures}
use Rattle.spans.proofs.measure.Goals as goal

pub loop-number-init : goal.loop-number-init
loop-number-init c = λ y. (y.records, passes_start _ y c.requires.1 c.full-tally.ensures)

pub ahead-next-requires : goal.ahead-next-requires
ahead-next-requires c =
    let y = c.requires.0 in
    passes_coming _ y (c.loop-number.invariant y).1 c.loop-number-test.true

pub behind-tally-requires : goal.behind-tally-requires
behind-tally-requires c =
    let q = c.requires in
    turn_small _ q.0 q.1 q.2 (passes_turn _ q.0 (c.loop-number.invariant q.0).1 c.loop-number-test.true c.ahead-next.ensures)

pub loop-number-preserved : goal.loop-number-preserved
loop-number-preserved c = λ y.
    let q = c.requires in
    let x = passes_turn _ y (c.loop-number.invariant y).1 c.loop-number-test.true c.ahead-next.ensures in
    (x.more, turn_passes _ y q.1 q.2 x c.behind-tally.ensures)

pub returns : goal.returns
returns c = measures c.requires.0 c.loop-number.invariant (omega arith)
