-- What is left of the way to record R leads to the same place from each turn on.
use Rattle.walks.proofs.AnswerLaws.{Going}
use Rattle.walks.proofs.taken.Given as goal

abbrev pub invariant-loop-number : goal.invariant-loop-number
invariant-loop-number l = Going l.form l.reel l.first l.w l._number
