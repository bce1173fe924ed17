-- `cards::field_card` meets its contract: the cards of an accepted deck are a U card and FS cards that can be read, with at most 64 fields, so that the card of the field
-- is the one found among them; of a refused deck there is none.
use mathlib.Core.Path.{sym, subst}
use Prim.Native.Nat.{◌-◌}
use Rattle.rules.specs.Places.{All}
use Rattle.rules.specs.Deck.{u_card}
use Rattle.rules.proofs.Base.AllLaws.{all_tail}
use Rattle.rows.proofs.RowLaws.{row_none}
use Rattle.lines.specs.Meaning.{IsCard}
use Rattle.cards.specs.Deck.{OperandAt, CardAtSays}
use Rattle.cards.proofs.HolderLaws.{refused_card, accepted_cards, accepted_first, accepted_fine, accepted_card}
use Rattle.cards.proofs.field_card.Goals as goal

pub read_deck-requires : goal.read_deck-requires
read_deck-requires c = sym row_none

pub returns-in_default : goal.returns-in_default
returns-in_default c =
    let d = c.read_deck in
    let a = c.args in
    refused_card a.deck.now d.new.row _ c.in_default.ensures a.field

pub card_at-first-requires : goal.card_at-first-requires
card_at-first-requires c =
    let d = c.read_deck in
    accepted_cards c.args.deck.now d.new.row c.in-Ok._asked c.in-Ok.ensures

pub returns-in_default-first : goal.returns-in_default-first
returns-in_default-first c =
    let d = c.read_deck in
    absurd (accepted_first c.args.deck.now d.new.row c.in-Ok._asked c.in-Ok.ensures c.card_at-first.result c.card_at-first.ensures c.in_default-first.not-UAt)

-- the first card is a U card
pub card_over-requires : goal.card_over-requires
card_over-requires c =
    let is_u : OperandAt (u_card (c.in-UAt.start - 0)) c.args.deck.now 0 c.in-UAt.start c.in-UAt.end c.in-UAt.next = subst (CardAtSays c.args.deck.now 0) c.in-UAt.is c.card_at-first.ensures in
    let d = c.read_deck in
    let a = c.args in
    let g = c.in-UAt in record { all = all_tail (subst (All IsCard) is_u.is (accepted_cards a.deck.now d.new.row c.in-Ok._asked c.in-Ok.ensures)); fs_fine = accepted_fine a.deck.now d.new.row c.in-Ok._asked c.in-Ok.ensures g.start g.end g.next is_u }

pub returns : goal.returns
returns c =
    let is_u : OperandAt (u_card (c.in-UAt.start - 0)) c.args.deck.now 0 c.in-UAt.start c.in-UAt.end c.in-UAt.next = subst (CardAtSays c.args.deck.now 0) c.in-UAt.is c.card_at-first.ensures in
    let d = c.read_deck in
    let a = c.args in
    let g = c.in-UAt in
    accepted_card a.deck.now d.new.row c.in-Ok._asked c.in-Ok.ensures g.start g.end g.next is_u a.field c.card_over.result c.card_over.ensures
