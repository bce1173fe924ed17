-- A row of zeros holds no field, as the plan asks of it.
use mathlib.Core.Path.{sym}
use Rattle.rows.proofs.RowLaws.{row_none}
use Rattle.reports.proofs.plan_of.Goals as goal

pub plan_deck-requires : goal.plan_deck-requires
plan_deck-requires c = sym row_none
