-- `cards::card_at` meets its contract: the line that begins there, or none.
use Rattle.cards.proofs.DeckLaws.{nothing_at}
use Rattle.cards.proofs.card_at.Goals as goal

pub returns-in-None : goal.returns-in-None
returns-in-None c = nothing_at c.args.deck.now c.args.at c.in-None.ensures
