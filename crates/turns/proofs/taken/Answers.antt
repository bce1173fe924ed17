-- By the test whether the code is even.
use Rattle.turns.proofs.TurnsLaws.{taken_even, taken_odd}
use Rattle.turns.proofs.taken.Goals as goal

pub returns-then-code-eq0 : goal.returns-then-code-eq0
returns-then-code-eq0 c = taken_even _ _ _ c.if-code-eq0.true

pub returns-else-code-eq0 : goal.returns-else-code-eq0
returns-else-code-eq0 c = taken_odd _ _ _ c.if-code-eq0.false
