-- Measured, and then refused, or written.
use Rattle.spans.proofs.RunLaws.{takeable, standing, filled_lent, filled_refused, filled_written}
use Rattle.spans.proofs.filled.Goals as goal

pub taken-from-requires : goal.taken-from-requires
taken-from-requires c = takeable c.requires.0

pub measure-tally-requires : goal.measure-tally-requires
measure-tally-requires c = (standing c.requires.0 c.taken-from.ensures, c.requires.1, c.requires.2)

pub returns-then-answer-gt0 : goal.returns-then-answer-gt0
returns-then-answer-gt0 c =
    filled_refused c.taken-from.ensures c.measure-tally.ensures c.args.out.now c.housed-answer.ensures c.if-answer-gt0.true

pub write-requires : goal.write-requires
write-requires c =
    filled_lent c.requires.0 c.taken-from.ensures c.measure-tally.ensures c.args.out.now _ c.requires.1 c.requires.2 c.housed-answer.ensures c.if-answer-gt0.false

pub returns : goal.returns
returns c =
    filled_written c.taken-from.ensures c.measure-tally.ensures c.args.out.now c.housed-answer.ensures c.requires.1 c.requires.2 c.if-answer-gt0.false _ c.write.ensures
