-- Where the operands of a deck's cards stand, and what was read of its FS cards.
use Rattle.std.specs.Prelude.{◌≡◌, List, [], ◌∷◌, map, ℕ, ◌-◌, ◌≤◌, ◌<◌, length, drop, Result, Ok, Err}
use Rattle.std.proofs.Math.Option.{Option, none, some}
use Rattle.std.proofs.Math.Seq.{slice}
use Rattle.rules.specs.Base.{joined}
use Rattle.rules.specs.Answer.{Answer, fine, refuse}
use Rattle.rules.specs.Deck.{lines, Card, u_card, fs_card, end_card, card_of}
use Rattle.rules.specs.Grammar.{Item}
use Rattle.rules.specs.Words.{fs_words}
use Rattle.rules.specs.Asked.{fields_of, items_from}
use Rattle.cards.specs.declared.CardAt.{CardAt}
use Rattle.cards.specs.declared.CardAt.TheVariants.{UAt, FsAt, NoOperand}
use Rattle.cards.specs.declared.Noted.{Noted}
use Rattle.cards.specs.declared.Unread.{Unread}
use Rattle.cards.specs.Selected.{NotedRow, with_cards}

-- what card each line is
abbrev pub cards_in : List ℕ → List (Option Card)
cards_in deck = map card_of (lines deck)

-- the operands of the FS cards that come first
abbrev pub fs_first : List (Option Card) → List (List ℕ)
fs_first [] = []
fs_first (none ∷ cs) = []
fs_first (some (u_card b o) ∷ cs) = []
fs_first (some (fs_card o) ∷ cs) = o ∷ fs_first cs
fs_first (some end_card ∷ cs) = []

-- the card at a place has its operand from start to end, and the next line begins at next
pub record OperandAt (card : List ℕ → Card) (deck : List ℕ) (at start end next : ℕ) : Type 0 where
  pub on : at < next
  pub within : next ≤ length deck
  pub from : start ≤ end
  pub upto : end ≤ length deck
  pub is : cards_in (drop at deck) ≡ some (card (slice start end deck)) ∷ cards_in (drop next deck)

-- the first card has no operand, or there is none
abbrev pub Operandless : List (Option Card) → Type 0
Operandless [] = Unit
Operandless (none ∷ cs) = Unit
Operandless (some (u_card b o) ∷ cs) = ⊥
Operandless (some (fs_card o) ∷ cs) = ⊥
Operandless (some end_card ∷ cs) = Unit

abbrev pub CardAtSays : List ℕ → ℕ → CardAt → Type 0
CardAtSays deck at (UAt start end next) = OperandAt (u_card (start - at)) deck at start end next
CardAtSays deck at (FsAt start end next) = OperandAt fs_card deck at start end next
CardAtSays deck at NoOperand = Operandless (cards_in (drop at deck))

-- ---- FS cards

-- what was read of the FS cards with these operands, from a card on: the items of all of them, or the first card that could not be read, and where it stopped
abbrev pub FsRead : ℕ → NotedRow → List (List ℕ) → Answer (List (List Item)) → Result Noted Unread → List ℕ → Type 0
FsRead card t os (fine cs) (Ok n) row = (n, row) ≡ with_cards card (map fs_words os) t
FsRead card t os (fine cs) (Err unread) row = ⊥
FsRead card t os (refuse x) (Ok n) row = ⊥
FsRead card t os (refuse x) (Err unread) row = (unread.card ≡ x.place) × (unread.column ≡ x.column)

abbrev pub FsSaid : ℕ → NotedRow → List (List ℕ) → Result Noted Unread → List ℕ → Type 0
FsSaid card t os r row = FsRead card t os (items_from card os) r row

-- all FS cards with these operands can be read, and have at most 64 fields
pub record FsFine (os : List (List ℕ)) : Type 0 where
  pub cards : List (List Item)
  pub items : items_from 2 os ≡ fine cards
  pub few : length (fields_of (joined cards)) ≤ 64
