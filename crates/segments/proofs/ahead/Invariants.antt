-- The walk holds a spot within the record, and how much of it is passed; no record is longer than 32,752 bytes, and each segment has a byte or more.
use Prim.Native.Nat.{◌-◌}
use Rattle.segments.proofs.AheadLaws.{Walking}
use Rattle.segments.proofs.ahead.Given as goal

abbrev pub invariant-loop-at : goal.invariant-loop-at
invariant-loop-at l = Walking l.reel l.initial.at l.at l.size

abbrev pub decreases-loop-at : goal.decreases-loop-at
decreases-loop-at l = 32752 - l.size
