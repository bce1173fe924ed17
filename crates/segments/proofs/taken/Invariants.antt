-- Each turn passes over one record.
use Rattle.segments.proofs.TakenLaws.{Passing}
use Rattle.segments.proofs.taken.Given as goal

abbrev pub invariant-loop : goal.invariant-loop
invariant-loop l = Passing l.reel l.count l.at l.counter
