-- What the FS cards have said so far, and what an item more makes of it: what is noted, with columns, and the row that the fields go into.
use Rattle.std.specs.Prelude.{◌≡◌, cond, List, [], ◌∷◌, ℕ, suc, ◌+◌, ◌*◌, ltb, eqb, length}
use Rattle.rules.specs.Halves.{Field as RuleField, over}
use Rattle.rules.specs.Reader.{Read, read, stopped}
use Rattle.rules.specs.Deck.{before_fs}
use Rattle.rules.specs.Grammar.{Part, in_data, in_key, Item, field, cv}
use Rattle.rules.specs.Words.{Worded, first_column, outside_in}
use Rattle.rules.specs.Asked.{item_numbers}
use Rattle.terms.specs.declared.Field.{Field}
use Rattle.terms.specs.Meaning.{field_of, laid}
use Rattle.rows.specs.Flat.{flat_of, Short}
use Rattle.rows.specs.Kept.{row_of}
use Rattle.cards.specs.declared.Noted.{Noted}
use Rattle.std.specs.Prelude.{Result, Ok, Err}
use Rattle.cards.specs.Stops.{StopsAt}

-- ---- what is noted

abbrev pub nothing_noted : ℕ → Noted
nothing_noted key = record { key = key; count = 0; sixty_fifth = 0; cv = 0; keyed = 0; second_cv = 0; second_column = 0; beyond = 0; beyond_column = 0 }

-- a field more is fieldCounted; of the 65th its card is noted
unfoldable pub field_counted : Noted → ℕ → Noted
field_counted n card = cond (ltb n.count 64) (record n { count = n.count + 1 }) (record n { sixty_fifth = first_column n.sixty_fifth card })

-- of the first field that is taken from the key the card is noted
abbrev pub key_noted : Noted → ℕ → Part → Noted
key_noted n card in_data = n
key_noted n card in_key = record n { keyed = first_column n.keyed card }

-- of the first field with a number outside its limits the card and the number's column are noted
abbrev pub beyond_noted : Noted → ℕ → ℕ → Noted
beyond_noted n card column = record n { beyond = card; beyond_column = column }

unfoldable pub field_noted : Noted → ℕ → Part → ℕ → Noted
field_noted n card part outside =
    let next = key_noted (field_counted n card) card part in
    cond (eqb outside 0) next (cond (eqb n.beyond 0) (beyond_noted next card outside) next)

-- the card of CV, and the card and column of the second CV, are noted
abbrev pub first_noted : Noted → ℕ → Noted
first_noted n card = record n { cv = card }

abbrev pub second_noted : Noted → ℕ → ℕ → Noted
second_noted n card column = record n { second_cv = card; second_column = column }

unfoldable pub cv_noted : Noted → ℕ → ℕ → Noted
cv_noted n card column = cond (eqb n.cv 0) (first_noted n card) (cond (eqb n.second_cv 0) (second_noted n card column) n)

-- ---- the row

-- 16 bits hold the numbers of a field that are within their limits
abbrev pub Keepable : Field → ℕ → Type 0
Keepable f outside = outside ≡ 0 → Short (field_of f)

-- a field goes behind those before it, while there is room; one with a number outside its limits does not
unfoldable pub kept_row : ℕ → ℕ → RuleField → List ℕ → List ℕ
kept_row count outside f row = cond (eqb outside 0) (cond (ltb count 64) (over (5 * count) (flat_of (f ∷ [])) row) row) row

-- ---- the items of a card

-- what is noted, and the row
abbrev pub NotedRow : Type 0
NotedRow = Noted × List ℕ

-- an item that begins at this column
unfoldable pub with_item : ℕ → ℕ → ℕ → Item → NotedRow → NotedRow
with_item card column outside (field f) t = (field_noted t.0 card f.part outside, kept_row t.0.count outside (laid t.0.key f) t.1)
with_item card column outside cv t = (cv_noted t.0 card column, t.1)

abbrev pub with_words : ℕ → ℕ → List (Worded Item) → NotedRow → NotedRow
with_words card column [] t = t
with_words card column (w ∷ ws) t =
    with_words card (column + suc (length w.text)) ws (with_item card column (outside_in item_numbers column w) w.value t)

-- what a list, or a rest, gives: of a text that begins at a column, whose first item begins at column b
abbrev pub ListSays : ℕ → ℕ → ℕ → NotedRow → List ℕ → Read (List (Worded Item)) → Result Noted ℕ → List ℕ → Type 0
ListSays card b column t s (read ws left) (Ok n) row = (n ≡ (with_words card b ws t).0) × (row ≡ (with_words card b ws t).1)
ListSays card b column t s (read ws left) (Err unread) row = ⊥
ListSays card b column t s (stopped left) (Ok n) row = ⊥
ListSays card b column t s (stopped left) (Err unread) row = StopsAt column s left unread

-- ---- the cards

-- no card yet, behind a key of so many bytes
unfoldable pub no_selection : ℕ → NotedRow
no_selection key = (nothing_noted key, row_of [])

unfoldable pub with_card : ℕ → List (Worded Item) → NotedRow → NotedRow
with_card card ws t = with_words card (suc before_fs) ws t

-- the cards from a card on, one after another
abbrev pub with_cards : ℕ → List (List (Worded Item)) → NotedRow → NotedRow
with_cards card [] t = t
with_cards card (ws ∷ cs) t = with_cards (suc card) cs (with_card card ws t)
