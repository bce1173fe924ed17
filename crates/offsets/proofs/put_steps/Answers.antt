-- Each turn puts one offset, a step behind the one before; the end goes behind them, where no turn was left, or no step.
use native.Mathlib.Omega.{arith}
use Rattle.offsets.proofs.StepLaws.{step_start, step_room, step_more, step_last, step_end}
use Rattle.offsets.proofs.put_steps.Goals as goal
use Rattle.offsets.proofs.put_steps.Goals.{else-loop-next-test, then-loop-next-test+else-step-end}

pub loop-next-init : goal.loop-next-init
loop-next-init c = step_start _ _ _ _ c.requires.step_small.rises c.requires.end_in_bounds

pub put_word-requires : goal.put_word-requires
put_word-requires c = step_room c.loop-next.invariant (omega arith)

pub loop-next-preserved : goal.loop-next-preserved
loop-next-preserved c = step_more c.loop-next.invariant c.requires.step_small.least (omega arith) _ c.put_word.ensures

pub put_word-requires-2 : goal.put_word-requires-2
put_word-requires-2 c = elim c.loop-next-test.branch [
  | else-loop-next-test w ↦ rw (w.at-is, w.out-is) (step_last c.loop-next.invariant w.loop-next-test.false)
  | then-loop-next-test+else-step-end w ↦
      rw (w.at-is, w.out-is) (step_last (step_more c.loop-next.invariant c.requires.step_small.least w.loop-next-test.true _ w.put_word.ensures) (omega arith))
]

pub returns : goal.returns
returns c = elim c.loop-next-test.branch [
  | else-loop-next-test w ↦ step_end c.loop-next.invariant w.loop-next-test.false _ (rw (w.at-is, w.out-is) at c.put_word-2.ensures)
  | then-loop-next-test+else-step-end w ↦
      step_end (step_more c.loop-next.invariant c.requires.step_small.least w.loop-next-test.true _ w.put_word.ensures) (omega arith) _
      (rw (w.at-is, w.out-is) at c.put_word-2.ensures)
]
