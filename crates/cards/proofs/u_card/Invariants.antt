-- `cards::u_card` meets its contract: the loop's invariant is that what was noted and what the rest of the card says
-- are what the card says, and each way out of the loop is a way in which a list ends. The measure is what is left of the card.
use Prim.Native.Nat.{◌-◌}
use lib.ListN.{length}
use Rattle.cards.proofs.ParameterLaws.{Going}
use Rattle.cards.proofs.u_card.Given as goal

abbrev pub invariant-loop-stop : goal.invariant-loop-stop
invariant-loop-stop l = Going l.column l.operand l.state l.outside l.at

abbrev pub decreases-loop-stop : goal.decreases-loop-stop
decreases-loop-stop l = length l.operand - l.at
