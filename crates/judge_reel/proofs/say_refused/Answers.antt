-- A row of zeros holds no field, as the plan asks of it.
use mathlib.Core.Path.{sym}
use Rattle.rows.proofs.RowLaws.{row_none}
use Rattle.judge_reel.proofs.say_refused.Goals as goal

pub plan_deck-plan-requires : goal.plan_deck-plan-requires
plan_deck-plan-requires g c = sym row_none
