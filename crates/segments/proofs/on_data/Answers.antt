-- By the test whether something is left.
use Rattle.segments.proofs.SpotLaws.{on_here, on_next}
use Rattle.segments.proofs.on_data.Goals as goal

pub returns-then-v : goal.returns-then-v
returns-then-v c = let a = c.args in on_here a.reel.now a.v c.if-v.true

pub returns : goal.returns
returns c =
    let a = c.args in
    on_next a.reel.now a.v _ c.if-v.false c.next.ensures
