-- A row of zeros holds no field, as the reading of a deck asks of it.
use mathlib.Core.Path.{sym}
use Rattle.rows.proofs.RowLaws.{row_none}
use Rattle.notices.proofs.deck.read.Goals as goal

pub read_deck-requires : goal.read_deck-requires
read_deck-requires c = sym row_none
