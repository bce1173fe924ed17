-- `deck_and_reel` is safe and ends: a row of zeros holds no field, as reading a deck asks of it.
use mathlib.Core.Path.{sym}
use Rattle.rows.proofs.RowLaws.{row_none}
use Rattle.answers.proofs.deck_and_reel.Goals as goal

pub read_deck-requires : goal.read_deck-requires
read_deck-requires g c = sym row_none
