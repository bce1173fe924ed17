-- What `read_deck` promises of its answer and of the lent row, for every deck: the refusal of 1 to 7 that the rules give, or what they say that the cards ask for.
use Rattle.std.specs.Prelude.{◌≡◌, List, [], ℕ, ◌+◌, get_or, Result, Ok, Err}
use Rattle.rules.specs.Answer.{Answer, fine, refuse}
use Rattle.rules.specs.Order.{operands_of}
use Rattle.rules.specs.Asked.{Asked as RuleAsked, asked_of}
use Rattle.terms.specs.declared.Mode.TheVariants.{TC}
use Rattle.terms.specs.declared.Format.TheVariants.{FF}
use Rattle.terms.specs.declared.Size.TheVariants.{One}
use Rattle.terms.specs.declared.Asked.{Asked}
use Rattle.terms.specs.Meaning.{laid_fields, field_cards, Means}
use Rattle.rows.specs.Kept.{row_of}
use Rattle.lines.specs.Ordering.{card_count}
use Rattle.cards.specs.declared.CardRefusal.{CardRefusal}

unfoldable pub nothing_asked : Asked
nothing_asked =
    record {
      mode = TC;
      format = FF;
      input = One 0;
      output = One 0;
      first = 0;
      key = 0;
      count = 0;
      fs = 0;
      cv = 0;
      keyed = 0;
    }

abbrev pub card_refusal : ℕ → ℕ → ℕ → CardRefusal
card_refusal number place column = record { number = number; place = place; column = column }

abbrev pub refused_deck : ℕ → ℕ → ℕ → Result Asked CardRefusal
refused_deck number place column = Err (card_refusal number place column)

-- this is what the cards ask for, and nothing else; the row holds their fields
pub record Accepts (x : Asked) (row : List ℕ) (a : RuleAsked) : Type 0 where
  pub means : Means x a
  pub fields : row ≡ row_of (laid_fields a)

-- or the deck's refusal
abbrev pub DeckAnswered : Answer RuleAsked → Result Asked CardRefusal → List ℕ → Type 0
DeckAnswered (fine a) (Ok x) row = Accepts x row a
DeckAnswered (fine a) (Err v) row = ⊥
DeckAnswered (refuse x) (Ok y) row = ⊥
DeckAnswered (refuse x) (Err v) row = v ≡ card_refusal x.number x.place x.column

abbrev pub DeckReads : List ℕ → Result Asked CardRefusal → List ℕ → Type 0
DeckReads deck r row = DeckAnswered (asked_of deck) r row

-- and a refused deck leaves no field in it
pub record DeckSays (deck : List ℕ) (r : Result Asked CardRefusal) (row : List ℕ) : Type 0 where
  pub reads : DeckReads deck r row
  pub none : (v : CardRefusal) → r ≡ Err v → row ≡ row_of []

-- the cards are in order, and so many are FS cards
abbrev pub InOrder : List ℕ → ℕ → Type 0
InOrder deck fs = card_count (operands_of deck) ≡ fine (2 + fs)

-- ---- the card of a field

-- the card on which field i stands, the first being field 0; 0 where the deck is refused, or has no such field
abbrev pub card_of_field : Answer RuleAsked → ℕ → ℕ
card_of_field (fine a) i = get_or (field_cards 2 a.cards) i 0
card_of_field (refuse x) i = 0
