-- A piece lies behind its place and inside the block, so that fewer bytes are left at each turn.
use Rattle.std.proofs.Common.{◌-◌, length}
use Rattle.answers.proofs.reel.in_block.Given as goal

abbrev pub decreases-loop-piece : goal.decreases-loop-piece
decreases-loop-piece g l = length l.block - l.at.at
