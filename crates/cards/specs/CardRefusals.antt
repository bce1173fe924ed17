-- Refusals 4 to 7 as they are told from what was noted of the U card and of the FS cards.
use Rattle.std.specs.Prelude.{Bool, cond, ◌&&◌, ℕ, eqb, Result, Ok, Err}
use Rattle.rules.specs.Grammar.{Format, ff, fv, fu, fsp}
use Rattle.rules.specs.Asked.{Utility}
use Rattle.terms.specs.declared.Asked.{Asked}
use Rattle.terms.specs.Meaning.{mode_of, format_of, size_of, input_of}
use Rattle.keys.specs.Keys.{joined_of}
use Rattle.cards.specs.declared.Parameters.{Parameters}
use Rattle.cards.specs.declared.OutsideColumns.{OutsideColumns}
use Rattle.cards.specs.declared.Noted.{Noted}
use Rattle.cards.specs.declared.CardRefusal.{CardRefusal}
use Rattle.cards.specs.Parameters.{has_seen}
use Rattle.cards.specs.Promise.{card_refusal}

-- T, F, A and B are given
abbrev pub is_complete : Parameters → Bool
is_complete p = has_seen p 0 && has_seen p 1 && has_seen p 2 && has_seen p 3

-- what the U card asks for, where it is complete
unfoldable pub utility_in : Parameters → Utility
utility_in p = record { mode = mode_of p.mode; format = format_of p.format; input = input_of p.input; output = size_of p.output; first = p.first }

-- the column of its first number outside its limits
abbrev pub u_outside : Format → OutsideColumns → ℕ
u_outside ff o = o.plain
u_outside fv o = o.variable
u_outside fu o = o.plain
u_outside fsp o = o.variable

-- a card that was noted, with a column
abbrev pub or_noted : ℕ → ℕ → ℕ → Result Unit CardRefusal → Result Unit CardRefusal
or_noted number card column next = cond (eqb card 0) next (Err (card_refusal number card column))

-- a column of the U card that was noted
abbrev pub or_column : ℕ → ℕ → Result Unit CardRefusal → Result Unit CardRefusal
or_column number column next = cond (eqb column 0) next (Err (card_refusal number 1 column))

-- refusals 6 and 7
unfoldable pub limits_of : Format → OutsideColumns → Noted → Result Unit CardRefusal
limits_of f o n = or_noted 6 n.sixty_fifth 0 (or_column 7 (u_outside f o) (or_noted 7 n.beyond n.beyond_column (Ok tt)))

-- the lowest number first, and of one number the U card before the FS cards
unfoldable pub card_refusal_of : Parameters → OutsideColumns → Noted → Result Unit CardRefusal
card_refusal_of p o n =
    or_column 4 p.twice
    (or_noted 4 n.second_cv n.second_column
    (cond (is_complete p) (limits_of (format_of p.format) o n) (Err (card_refusal 5 1 0))))

-- what the cards ask for, where they are not refused
unfoldable pub asked_for : Parameters → Noted → ℕ → Asked
asked_for p n fs =
    record { mode = p.mode; format = p.format; input = joined_of p.input; output = p.output; first = p.first; key = n.key; count = n.count; fs = fs; cv = n.cv; keyed = n.keyed }

-- the deck whose cards all could be read
abbrev pub asked_or : Asked → Result Unit CardRefusal → Result Asked CardRefusal
asked_or a (Ok u) = Ok a
asked_or a (Err v) = Err v

unfoldable pub judged_as : Parameters → OutsideColumns → Noted → ℕ → Result Asked CardRefusal
judged_as p o n fs = asked_or (asked_for p n fs) (card_refusal_of p o n)
