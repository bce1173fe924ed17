-- `losses::writes` meets its contract: each test is one of the rules' test, of the same numbers.
use Rattle.losses.proofs.LastLaws.{writes_from, writes_before}
use Rattle.losses.proofs.writes.Goals as goal

pub returns-then-f-position : goal.returns-then-f-position
returns-then-f-position c = writes_from _ _ _ c.requires _ c.if-f-position.true

pub returns-else-f-position : goal.returns-else-f-position
returns-else-f-position c = writes_before _ _ _ c.requires _ c.if-f-position.false
