-- Each turn asks one record more; a walk ends since less of the reel is left at each turn.
use Rattle.walks.specs.Promise.{bytes_left}
use Rattle.measures.proofs.SeekLaws.{Seeking}
use Rattle.measures.proofs.first_walked.Given as goal

abbrev pub invariant-loop-read : goal.invariant-loop-read
invariant-loop-read l = Seeking l.form l.fn.task.first l.fields l.reel l.w l.number

abbrev pub decreases-loop-read : goal.decreases-loop-read
decreases-loop-read l = bytes_left l.reel l.w
