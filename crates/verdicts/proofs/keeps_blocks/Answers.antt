-- What is read of the cards tells the mode, or that they are refused.
use mathlib.Core.Path.{sym}
use Rattle.rows.proofs.RowLaws.{row_none}
use Rattle.verdicts.proofs.DeckLaws.{none_asked, mode_asked}
use Rattle.verdicts.proofs.keeps_blocks.Goals as goal

pub read_deck-requires : goal.read_deck-requires
read_deck-requires c = sym row_none

pub returns-in-Ok : goal.returns-in-Ok
returns-in-Ok c = mode_asked c.args.deck.now _ c.in-Ok.asked c.in-Ok.ensures _ c.fills.ensures

pub returns-in-Err : goal.returns-in-Err
returns-in-Err c = none_asked c.args.deck.now _ _ c.in-Err.ensures
