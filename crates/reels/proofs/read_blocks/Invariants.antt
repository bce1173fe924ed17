-- The walk holds the number of a block and how many records were counted before it; each way out is a law of the reading.
use Rattle.reels.proofs.ReelReads.{Reading}
use Rattle.reels.proofs.read_blocks.Given as goal

abbrev pub invariant-loop-i : goal.invariant-loop-i
invariant-loop-i l = Reading l.form l.reel l.blocks l.records l.i
