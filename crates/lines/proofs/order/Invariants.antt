-- `lines::order` meets its contract. The loop's invariant: judging the lines from `at` on comes to what judging all of the deck's lines comes to.
-- The measure is what is left of the deck.
use Prim.Native.Nat.{◌-◌}
use lib.ListN.{length}
use Rattle.lines.proofs.SeenLaws.{Left}
use Rattle.lines.proofs.order.Given as goal

abbrev pub invariant-loop-end : goal.invariant-loop-end
invariant-loop-end l = Left l.deck l.at l.seen

abbrev pub decreases-loop-end : goal.decreases-loop-end
decreases-loop-end l = length l.deck - l.at
