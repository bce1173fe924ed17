-- Before each turn the blocks so far are laid, so that a turn lays the segments of the next record behind them.
use lib.ListN.{length}
use Rattle.spans.specs.Promise.{SpannedLent}
use Rattle.spans.proofs.WriteLaws.{Writes}
use Rattle.spans.proofs.write.Given as goal

abbrev pub invariant-loop-number : goal.invariant-loop-number
invariant-loop-number l = (y : SpannedLent l.m l.reel l.initial.at l.count l.blocks (length l.initial.out)) → Writes l.initial.out y l.out l.at l.tally l._number
