-- What was read lies within the room, which keeps its length, and is what the reads so far brought; the room that is left falls at each read that brings
-- a byte.
use Prim.Native.Nat.{◌≤◌, ◌-◌}
use mathlib.Core.Path.{◌≡◌}
use lib.ListN.{length}
use Rattle.inputs.proofs.ReadingLaws.{FilledTo}
use Rattle.inputs.proofs.fill.Given as goal

abbrev pub invariant-loop-at : goal.invariant-loop-at
invariant-loop-at g l = (l.at ≤ length l.room) × (length l.room ≡ length l.initial.room) × FilledTo (length l.initial.room) l.at

abbrev pub decreases-loop-at : goal.decreases-loop-at
decreases-loop-at g l = length l.initial.room - l.at
