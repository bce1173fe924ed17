-- A segment lies behind its place and inside the block, so that fewer bytes are left at each turn.
use Rattle.std.proofs.Common.{◌-◌, length}
use Rattle.block_words.proofs.segment.first_wrong.Given as goal

abbrev pub decreases-loop-segment : goal.decreases-loop-segment
decreases-loop-segment l = length l.b - l.at.at
