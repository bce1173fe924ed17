-- By the test of the block's end.
use mathlib.Core.Path.{◌∙◌}
use Rattle.segments.proofs.SpotLaws.{next_here, next_later}
use Rattle.segments.proofs.next.Goals as goal

pub returns-then-at-b : goal.returns-then-at-b
returns-then-at-b c =
    let a = c.args in
    c.read_at.ensures ∙ next_here a.reel.now a.v _ c.block-b.ensures c.if-at-b.true

pub returns : goal.returns
returns c =
    let a = c.args in
    c.read_at-2.ensures ∙ next_later a.reel.now a.v _ c.block-b.ensures c.if-at-b.false
