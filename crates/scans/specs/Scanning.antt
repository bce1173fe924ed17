-- A scan of a deck, byte by byte: what it knows of the lines that have ended and of the line that is begun. What it comes to is a refusal 1 or 2 of
-- document 01, "The deck", or the number of the cards.
use Rattle.std.specs.Prelude.{Bool, false, cond, ◌||◌, List, [], ◌∷◌, ℕ, ◌+◌, ltb, leb, eqb, take, set, replicate, Option, None, is_some}
use Rattle.rules.specs.Answer.{Answer}
use Rattle.rules.specs.Deck.{card_of}
use Rattle.lines.specs.Ordering.{card_kind_of, with_line, order_of}
use Rattle.lines.specs.declared.CardKind.{CardKind}
use Rattle.scans.specs.declared.Scanner.{Scanner}

-- ---- lines

-- the begun line, of 80 bytes or fewer
abbrev pub begun_kind : Scanner → Option CardKind
begun_kind st = cond (leb st.size 80) (card_kind_of (card_of (take st.size st.begun))) None

-- the begun line has ended
abbrev pub line_ended : Scanner → Scanner
line_ended st = record { seen = with_line st.seen (begun_kind st); begun = st.begun; size = 0 }

-- it has a byte more
abbrev pub with_byte : Scanner → ℕ → Scanner
with_byte st b =
    cond (ltb st.size 80)
    (record { seen = st.seen; begun = set st.begun st.size b; size = st.size + 1 })
    (record { seen = st.seen; begun = st.begun; size = 81 })

abbrev pub step_of : Scanner → ℕ → Scanner
step_of st b = cond (eqb b 0x0A) (line_ended st) (with_byte st b)

-- ---- decks

-- of no bytes
unfoldable pub no_bytes : Scanner
no_bytes = record { seen = record { lines = 0; bad = None; fault = None; ended = false }; begun = replicate 80 0; size = 0 }

-- byte by byte
abbrev pub scan_from : Scanner → List ℕ → Scanner
scan_from st [] = st
scan_from st (b ∷ bs) = scan_from (step_of st b) bs

-- a line that is begun where the deck ends is the last
abbrev pub scanned_of : Scanner → Answer ℕ
scanned_of st = order_of (cond (eqb st.size 0) st (line_ended st)).seen

-- nothing that follows changes what it comes to: a line that is no card has ended, or the begun line is longer than any card
abbrev pub settled : Scanner → Bool
settled st = is_some st.seen.bad || ltb 80 st.size
