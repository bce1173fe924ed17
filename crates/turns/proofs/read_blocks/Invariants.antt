-- The walk holds the number of a block and the counts before it; each way out is a law of the reading.
use Rattle.turns.proofs.ReadingLaws.{Reading}
use Rattle.turns.proofs.read_blocks.Given as goal

abbrev pub invariant-loop-i : goal.invariant-loop-i
invariant-loop-i l = Reading l.g l.reel l.blocks l.counts l.i
