-- The two tests are those of the rules: no sum is made that could be too high.
use Rattle.turns.proofs.TurnsLaws.{turn_wrong, turn_right}
use Rattle.turns.proofs.in_turn.Goals as goal

pub returns-then-begins-closed : goal.returns-then-begins-closed
returns-then-begins-closed c = let a = c.args in turn_wrong a.held a.code a.size c.if-begins-closed.true

pub returns : goal.returns
returns c = let a = c.args in turn_right a.held a.code a.size c.requires c.if-begins-closed.false
