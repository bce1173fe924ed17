-- Each turn is one cut, which takes a byte or more.
use Rattle.cuts.proofs.CutLaws.{Going}
use Rattle.cuts.proofs.behind.Given as goal

abbrev pub invariant-loop-rest : goal.invariant-loop-rest
invariant-loop-rest l = Going l.m l.initial.now l.size l.now l.rest

abbrev pub decreases-loop-rest : goal.decreases-loop-rest
decreases-loop-rest l = l.rest
