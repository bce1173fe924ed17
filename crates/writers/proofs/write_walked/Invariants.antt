-- Before each turn the blocks so far are laid, so that a turn lays the next record behind them, or in a block of its own.
use lib.ListN.{length}
use Rattle.walks.specs.Promise.{bytes_left}
use Rattle.fixed.specs.Promise.{Lent}
use Rattle.writers.proofs.LayingLaws.{Laying}
use Rattle.writers.proofs.write_walked.Given as goal

abbrev pub invariant-loop-read : goal.invariant-loop-read
invariant-loop-read l = (y : Lent l.task l.fields l.reel l.blocks (length l.initial.out)) → Laying l.initial.out y l.out l.walk l.tally

abbrev pub decreases-loop-read : goal.decreases-loop-read
decreases-loop-read l = bytes_left l.reel l.walk
