-- The six numbers of the plan are those that the rules answer.
use mathlib.Core.Path.{sym}
use Rattle.rows.proofs.RowLaws.{row_none}
use Rattle.bhexodana.proofs.bhx_plan.Goals as goal

pub plan_deck-p-requires : goal.plan_deck-p-requires
plan_deck-p-requires c = sym row_none

pub returns : goal.returns
returns c = c.plan_deck-p.ensures.numbers
