-- What is in the room fits it, as the room keeps its length.
use Rattle.io.specs.Counts.{IsPrefixLen}
use Rattle.gathers.proofs.gather.Given as goal

abbrev pub invariant-loop-i : goal.invariant-loop-i
invariant-loop-i l = IsPrefixLen l.found.length l.room
