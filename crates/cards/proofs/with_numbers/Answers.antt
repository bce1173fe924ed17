-- `cards::with_numbers` meets its contract: the columns of both are those of its parts.
use Rattle.cards.proofs.with_numbers.Goals as goal

pub returns : goal.returns
returns c = rw (c.first_of-2.ensures, c.parameter_outside-2.ensures, c.first_of.ensures, c.parameter_outside.ensures)
