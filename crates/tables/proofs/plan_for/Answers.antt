-- The plan of the deck, filled in.
use mathlib.Core.Path.{sym}
use Rattle.rows.proofs.RowLaws.{row_none}
use Rattle.tables.proofs.plan_for.Goals as goal

pub plan_deck-plan-requires : goal.plan_deck-plan-requires
plan_deck-plan-requires c = sym row_none
