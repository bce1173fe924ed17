-- Document 02, order 5, in words: what a field of a keyed record reads, and the deck without keys that counts through.
use Rattle.std.specs.Prelude.{List, map, ℕ, ◌-◌, take, drop}
use Rattle.rules.specs.Halves.{input_size}
use Rattle.rules.specs.Grammar.{plain, Part, in_data, in_key, CardField, Item, field, cv}
use Rattle.rules.specs.Asked.{Utility, Asked}
use Rattle.rules.specs.Plan.{joined_size, key_length, through}

-- ---- the two parts of a record

-- behind a key of so many bytes
abbrev pub part_bytes : ℕ → Part → List ℕ → List ℕ
part_bytes key in_data r = drop key r
part_bytes key in_key r = take key r

-- what a field reads, as it stands on its card: so many bytes of its own part, from position r on
unfoldable pub own_input : ℕ → CardField → List ℕ → List ℕ
own_input key f r = take (input_size f.field.kind) (drop (f.field.r - 1) (part_bytes key f.part r))

-- ---- the deck without keys that counts through

-- r of a data field raised by K
abbrev pub through_field : ℕ → CardField → CardField
through_field key f = record { part = in_data; field = through key f }

abbrev pub through_item : ℕ → Item → Item
through_item key (field f) = field (through_field key f)
through_item key cv = cv

-- A=(K+D,K+D)
unfoldable pub through_utility : Utility → Utility
through_utility u = record { mode = u.mode; format = u.format; input = plain (joined_size u.input); output = u.output; first = u.first }

unfoldable pub through_asked : Asked → Asked
through_asked a =
    record {
      utility = through_utility a.utility;
      cards = map (map (through_item (key_length a.utility.input))) a.cards;
    }
