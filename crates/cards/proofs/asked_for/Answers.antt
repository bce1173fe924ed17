-- `cards::asked_for` meets its contract: its parts are those that were noted, key and data joined.
use Rattle.cards.specs.CardRefusals.{asked_for}
use Rattle.cards.proofs.asked_for.Goals as goal

pub returns : goal.returns
unfolding asked_for
returns c = rw c.joined.ensures
