-- `cards::read_deck` meets its contract: where a deck is refused the row is cleared, of which nothing else is said then.
use mathlib.Core.Path.{sym, ◌∙◌}
use Rattle.cards.proofs.PromiseLaws.{says_cleared, says_kept}
use Rattle.cards.proofs.read_deck.Goals as goal

pub returns-then-is_err : goal.returns-then-is_err
returns-then-is_err c =
    let k = c.read_cards-read in
    says_cleared c.args.deck.now k.result k.new.row _ (sym c.is_err.ensures.value ∙ c.if-is_err.true) k.ensures.1 c.clear.ensures

pub returns-else-is_err : goal.returns-else-is_err
returns-else-is_err c =
    let k = c.read_cards-read in
    says_kept c.args.deck.now k.result _ (sym c.is_err.ensures.value ∙ c.if-is_err.false) k.ensures.1
