-- `cards::field_counted` meets its contract: each way through its test notes what the rule notes.
use borrow.Author.Tests.{lt-ltb, le-ltb}
use Rattle.cards.specs.Selected.{field_counted}
use Rattle.cards.proofs.counted.Goals as goal

pub returns-then-noted-lt-FIELDS : goal.returns-then-noted-lt-FIELDS
unfolding field_counted
returns-then-noted-lt-FIELDS c = rw (lt-ltb _ 64 c.if-noted-lt-FIELDS.true)

pub returns : goal.returns
unfolding field_counted
returns c = rw (le-ltb _ 64 c.if-noted-lt-FIELDS.false, c.first_of.ensures)
