-- What is left of the way to record R leads to the same place from each turn on.
use mathlib.Core.Path.{◌∙◌}
use native.Mathlib.Omega.{arith}
use Rattle.walks.proofs.AnswerLaws.{all_taken, going_start, going_more, going_ended, going_there}
use Rattle.walks.proofs.taken.Goals as goal

pub loop-number-init : goal.loop-number-init
loop-number-init c = going_start _ _ _ _ c.requires c.begin-w.ensures

pub record-requires : goal.record-requires
record-requires c = c.loop-number.invariant.stands

pub loop-number-preserved : goal.loop-number-preserved
loop-number-preserved c = going_more c.loop-number.invariant c.loop-number-test.true c.in-Some.ensures

pub returns-in_default : goal.returns-in_default
returns-in_default c = all_taken _ _ _ _ (c.opened.ensures ∙ going_ended c.loop-number.invariant c.loop-number-test.true c.in_default.ensures)

pub returns : goal.returns
returns c = all_taken _ _ _ _ (c.opened-2.ensures ∙ going_there c.loop-number.invariant (omega arith))
