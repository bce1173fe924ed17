-- The walk holds a place and how many pieces were counted before it; each way out is a law of the counting.
use Prim.Native.Nat.{◌-◌}
use lib.ListN.{length}
use Rattle.reels.proofs.RecordsLaws.{Counting}
use Rattle.reels.proofs.counted.Given as goal

abbrev pub invariant-loop-piece : goal.invariant-loop-piece
invariant-loop-piece l = Counting l.form l.b l.initial.at.at l.at.at l.count

abbrev pub decreases-loop-piece : goal.decreases-loop-piece
decreases-loop-piece l = length l.b - l.at.at
