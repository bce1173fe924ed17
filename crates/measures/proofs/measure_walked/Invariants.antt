-- Each turn tallies one record more; a walk ends since less of the reel is left at each turn.
use Rattle.walks.specs.Promise.{bytes_left}
use Rattle.measures.proofs.GoLaws.{Going}
use Rattle.measures.proofs.measure_walked.Given as goal

abbrev pub invariant-loop-read : goal.invariant-loop-read
invariant-loop-read l = Going l.task l.reel l.walk l.number l.tally

abbrev pub decreases-loop-read : goal.decreases-loop-read
decreases-loop-read l = bytes_left l.reel l.walk
