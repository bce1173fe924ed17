-- `cards::key_noted` meets its contract: a field of the data changes nothing, and of one taken from the key the first card stays.
use Rattle.cards.proofs.key_noted.Goals as goal

pub returns-in-Key : goal.returns-in-Key
returns-in-Key c = rw (c.in-Key.is, c.first_of.ensures)
