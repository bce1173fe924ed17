-- TC and TF are refused with 8 at 1; else the deck is refused as its plan is.
use mathlib.Core.Path.{sym, ◌∙◌}
use Rattle.verdicts.proofs.DeckLaws.{refused_as_asked, refused_as_planned}
use Rattle.verdicts.proofs.refused_deck.Goals as goal

pub returns-then-keeps_blocks : goal.returns-then-keeps_blocks
returns-then-keeps_blocks c =
    refused_as_asked c.args.deck.now _ _ _ _ (sym c.keeps_blocks.ensures ∙ c.if-keeps_blocks.true) c.refused.ensures

pub returns : goal.returns
returns c =
    refused_as_planned c.args.deck.now _ _ _ _ (sym c.keeps_blocks.ensures ∙ c.if-keeps_blocks.false) c.refused-2.ensures
