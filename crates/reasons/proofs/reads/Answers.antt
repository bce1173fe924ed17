-- `reasons::reads` meets its contract: each test is one of the rules' test, of the same numbers.
use Rattle.reasons.proofs.ReasonLaws.{reads_from_lem, reads_before}
use Rattle.reasons.proofs.reads.Goals as goal

pub returns-then-from-h : goal.returns-then-from-h
returns-then-from-h c = reads_from_lem _ _ _ c.requires _ c.if-from-h.true

pub returns-else-from-h : goal.returns-else-from-h
returns-else-from-h c = reads_before _ _ _ c.requires _ c.if-from-h.false
