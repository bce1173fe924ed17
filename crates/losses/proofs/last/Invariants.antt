-- No field from here on passes, so all of them leave the last what it is.
use Rattle.losses.proofs.LastLaws.{Quiet}
use Rattle.losses.proofs.last.Given as goal

abbrev pub invariant-loop-k : goal.invariant-loop-k
invariant-loop-k g l = Quiet g.test l.fields l.k
