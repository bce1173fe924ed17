-- A piece lies behind its place and inside the block, so that fewer bytes are left at each turn.
use Rattle.std.proofs.Common.{◌-◌, length}
use Rattle.reports.proofs.length.behind_block.Given as goal

abbrev pub decreases-loop-piece : goal.decreases-loop-piece
decreases-loop-piece l = length l.b - l.at.at
