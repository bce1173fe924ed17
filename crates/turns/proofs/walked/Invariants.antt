-- The walk holds a place and the counts before it; each way out is a law of the counting.
use Prim.Native.Nat.{◌-◌}
use lib.ListN.{length}
use Rattle.turns.proofs.TurnsLaws.{Going}
use Rattle.turns.proofs.walked.Given as goal

abbrev pub invariant-loop-segment : goal.invariant-loop-segment
invariant-loop-segment l = Going l.b l.initial.at.at l.initial.counts l.counts l.at.at

abbrev pub decreases-loop-segment : goal.decreases-loop-segment
decreases-loop-segment l = length l.b - l.at.at
