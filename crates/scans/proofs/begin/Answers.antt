-- `scans::begin` meets its contract: its answer is the definition's, whose lines are those of no deck.
use Rattle.std.proofs.Common.{rules}
use Rattle.scans.specs.Scanning.{no_bytes}
use Rattle.scans.proofs.begin.Goals as goal

pub returns : goal.returns
unfolding no_bytes
returns c = search rules
