-- `cards::list` and `cards::rest` meet their contracts: a list reads its item and then its rest, a rest is nothing, a slash and a list, or stops. The measure of both
-- is what is left of the card.
use lib.ListN.{length}
use Rattle.cards.proofs.+list_rest.Given as goal

abbrev pub decreases-list : goal.decreases-list
decreases-list l = length l.operand.now

abbrev pub decreases-rest : goal.decreases-rest
decreases-rest l = length l.operand.now
