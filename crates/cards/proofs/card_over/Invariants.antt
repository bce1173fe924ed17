-- `cards::card_over` meets its contract: the loop's invariant is that the field stands on none of the cards before, so that its card is that among the cards from
-- here on. The measure is what is left of the deck.
use mathlib.Core.Path.{◌≡◌}
use Prim.Native.Nat.{◌-◌, ◌≤◌}
use lib.ListN.{length, drop}
use Rattle.rules.specs.Places.{All}
use Rattle.lines.specs.Meaning.{IsCard}
use Rattle.cards.specs.Deck.{cards_in}
use Rattle.cards.proofs.HolderLaws.{Seeking}
use Rattle.cards.proofs.card_over.Given as goal

abbrev pub invariant-loop-start : goal.invariant-loop-start
invariant-loop-start l = (length l.row ≡ 320) × All IsCard (cards_in (drop l.at l.deck)) × (l.noted.key ≤ 4096) × Seeking l.deck l.from l.field l.noted.count l.card l.at

abbrev pub decreases-loop-start : goal.decreases-loop-start
decreases-loop-start l = length l.deck - l.at
