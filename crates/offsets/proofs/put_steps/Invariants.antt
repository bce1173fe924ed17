-- Each turn puts one offset, a step behind the one before; the end goes behind them.
use Rattle.offsets.proofs.StepLaws.{Stepping}
use Rattle.offsets.proofs.put_steps.Given as goal

abbrev pub invariant-loop-next : goal.invariant-loop-next
invariant-loop-next l = Stepping l.step l.base l.end l.initial.out l.out l.at l.next
