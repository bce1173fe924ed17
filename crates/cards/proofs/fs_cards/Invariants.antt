-- `cards::fs_cards` meets its contract: the loop's invariant is that what is right of the cards from here on is right of all cards. The measure is what is left of
-- the deck.
use mathlib.Core.Path.{◌≡◌}
use Prim.Native.Nat.{◌-◌, ◌≤◌}
use lib.ListN.{length, drop}
use Rattle.rules.specs.Places.{All}
use Rattle.lines.specs.Meaning.{IsCard}
use Rattle.cards.specs.Deck.{cards_in}
use Rattle.cards.proofs.DeckLaws.{Selecting}
use Rattle.cards.proofs.fs_cards.Given as goal

abbrev pub invariant-loop-start : goal.invariant-loop-start
invariant-loop-start l =
    (length l.row ≡ 320) × All IsCard (cards_in (drop l.at l.deck)) × (l.noted.key ≤ 4096) × Selecting l.deck l.from l.key (l.noted, l.row) l.card l.at

abbrev pub decreases-loop-start : goal.decreases-loop-start
decreases-loop-start l = length l.deck - l.at
