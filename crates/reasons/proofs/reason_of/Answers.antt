-- What it asks of `shows` is what the definition asks.
use Rattle.reasons.proofs.ReasonLaws.{reason_shown, reason_dropped}
use Rattle.reasons.proofs.reason_of.Goals as goal

pub returns-then-shows : goal.returns-then-shows
returns-then-shows c = λ many l. reason_shown _ many _ _ _ (c.shows.ensures many l) c.if-shows.true

pub returns-else-shows : goal.returns-else-shows
returns-else-shows c = λ many l. reason_dropped _ many _ _ _ (c.shows.ensures many l) c.if-shows.false
