-- A piece lies inside the block and the next place behind it, so that it can be lent and the loop ends; what is in the room fits it.
use Rattle.std.proofs.Common.{◌-◌, length}
use Rattle.io.specs.Counts.{IsPrefixLen}
use Rattle.gathers.proofs.behind_block.Given as goal

abbrev pub invariant-loop-piece : goal.invariant-loop-piece
invariant-loop-piece l = IsPrefixLen l.found.length l.room

abbrev pub decreases-loop-piece : goal.decreases-loop-piece
decreases-loop-piece l = length l.b - l.at.at
