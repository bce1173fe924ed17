-- What the answers about a line say, in the words of document 01, "The deck".
use Rattle.std.specs.Prelude.{◌≡◌, ◌⊎◌, Bool, true, false, not, List, [], ◌∷◌, ℕ, suc, min, ◌≤◌, ◌<◌, eqb, length, take, drop, Option, None, Some}
use Rattle.std.proofs.Math.Option.{Option as Maybe, none, some}
use Rattle.std.proofs.Math.Seq.{slice}
use Rattle.rules.specs.Base.{ascii}
use Rattle.rules.specs.Reader.{read, after}
use Rattle.rules.specs.Deck.{Card, u_card, fs_card, end_card, lines, operand, card_of}
use Rattle.rules.specs.Places.{All}
use Rattle.rules.specs.TextParts.{Stopped, Inner}
use Rattle.lines.specs.declared.CardRead.{CardRead}
use Rattle.lines.specs.declared.CardRead.TheVariants.{UCard, FsCard, EndCard}
use Rattle.lines.specs.declared.LineRead.{LineRead}

-- whether s begins with p
abbrev pub BeginsSays : List ℕ → List ℕ → Bool → Type 0
BeginsSays p s true = (length p ≤ length s) × (after p s ≡ read tt (drop (length p) s))
BeginsSays p s false = Stopped (after p s)

-- the operand that starts at a place ends at another
pub record OperandEnds (l : List ℕ) (start end : ℕ) : Type 0 where
  pub from : start ≤ end
  pub upto : end ≤ length l
  pub is : operand (drop start l) ≡ slice start end l

-- what card a line is. The operand starts behind the card's first text, so only one answer is right; where it starts is how many bytes
-- stand before it, which a U card says
abbrev pub CardSays : List ℕ → Option CardRead → Type 0
CardSays l (Some (UCard start end)) =
    ((take start l ≡ ascii "// U ") ⊎ (take start l ≡ ascii "// UTT ")) × (start ≤ end) × (end ≤ length l) × (card_of l ≡ some (u_card start (slice start end l)))
CardSays l (Some (FsCard start end)) =
    (take start l ≡ ascii "// FS ") × (start ≤ end) × (end ≤ length l) × (card_of l ≡ some (fs_card (slice start end l)))
CardSays l (Some EndCard) = card_of l ≡ some end_card
CardSays l None = card_of l ≡ none

-- a line is a card
abbrev pub IsCard : Maybe Card → Type 0
IsCard none = ⊥
IsCard (some c) = Unit

-- no line ends with this byte
abbrev pub inner : ℕ → Bool
inner b = not (eqb b 0x0A)

-- no line ends from a place to before another
abbrev pub PassedSays : List ℕ → ℕ → ℕ → Type 0
PassedSays deck at end = (at ≤ end) × (end ≤ length deck) × All Inner (slice at end deck)

-- the line that begins at a place: the lines from there on are this one and the lines from the next place on
abbrev pub LineSays : List ℕ → ℕ → Option LineRead → Type 0
LineSays deck at (Some line) =
    (at < length deck)
    × (at ≤ line.end)
    × (line.end ≤ length deck)
    × (line.next ≡ min (suc line.end) (length deck))
    × (lines (drop at deck) ≡ slice at line.end deck ∷ lines (drop line.next deck))
LineSays deck at None = (length deck ≤ at) × (lines (drop at deck) ≡ [])
