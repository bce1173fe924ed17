-- What the lines of a deck come to, one after another: which of them is marked, as no card or as a card at fault at its place. It is a refusal 1 or 2 of
-- document 01, "The deck", or the number of the cards.
use Rattle.std.specs.Prelude.{Bool, true, false, cond, ℕ, ◌+◌, min, ltb, eqb, length, Option, None, Some, is_none, Result, Ok, Err}
use Rattle.std.proofs.Math.Option.{Option as Maybe, none, some}
use Rattle.rules.specs.Answer.{Answer, fine, refused, ◌>>=◌}
use Rattle.rules.specs.Deck.{Card, u_card, fs_card, end_card}
use Rattle.rules.specs.Order.{Operands}
use Rattle.lines.specs.declared.LinesSeen.{LinesSeen}
use Rattle.lines.specs.declared.CardKind.{CardKind}
use Rattle.lines.specs.declared.CardKind.TheVariants.{Utility, Select, End}
use Rattle.lines.specs.declared.Disorder.{Disorder}
use Rattle.lines.specs.declared.Disorder.TheVariants.{NoCard, Misplaced}

-- ---- places

-- the highest number that is counted
abbrev pub most : ℕ
most = 18446744073709551615

-- one more; the highest stays
abbrev pub one_more : ℕ → ℕ
one_more n = min (n + 1) most

-- the first place that is marked stays
abbrev pub first_marked : Option ℕ → Bool → ℕ → Option ℕ
first_marked (Some old) marked place = Some old
first_marked None true place = Some place
first_marked None false place = None

-- ---- cards

abbrev pub card_kind_of : Maybe Card → Option CardKind
card_kind_of none = None
card_kind_of (some (u_card b o)) = Some Utility
card_kind_of (some (fs_card o)) = Some Select
card_kind_of (some end_card) = Some End

-- whether an END card has stood, with this one
abbrev pub closed : Option CardKind → Bool → Bool
closed (Some Utility) ended = ended
closed (Some Select) ended = ended
closed (Some End) ended = true
closed None ended = ended

-- whether an FS or END card is at fault at its place
abbrev pub faulty : ℕ → Bool → Bool
faulty place ended = cond (eqb place 1) true (cond ended true (ltb 64 place))

-- whether a card is
abbrev pub misplaced : Option CardKind → ℕ → Bool → Bool
misplaced (Some Utility) place ended = ltb 1 place
misplaced (Some Select) place ended = faulty place ended
misplaced (Some End) place ended = faulty place ended
misplaced None place ended = false

-- ---- lines

-- a line more is judged
abbrev pub with_line : LinesSeen → Option CardKind → LinesSeen
with_line seen kind =
    record {
      lines = one_more seen.lines;
      bad = first_marked seen.bad (is_none kind) (one_more seen.lines);
      fault = first_marked seen.fault (misplaced kind (one_more seen.lines) seen.ended) (one_more seen.lines);
      ended = closed kind seen.ended;
    }

-- ---- decks

-- refused at the place that is marked, if one is
abbrev pub refused_where : ℕ → Option ℕ → Answer ℕ → Answer ℕ
refused_where number (Some place) otherwise = refused number place
refused_where number None otherwise = otherwise

-- the lowest refusal, or how many cards there are
abbrev pub order_of : LinesSeen → Answer ℕ
order_of seen =
    refused_where 1 seen.bad (refused_where 2 seen.fault (cond seen.ended (fine seen.lines) (refused 2 (one_more seen.lines))))

-- how many cards a deck in order has: one U card, the FS cards and one END card
abbrev pub card_count : Answer Operands → Answer ℕ
card_count answer = answer >>= λ os. fine (2 + length os.fs)

-- ---- answers

-- what an answer about the cards' order says: a refusal with its number and place, or how many cards there are
abbrev pub answer_of : Result ℕ Disorder → Answer ℕ
answer_of (Ok cards) = fine cards
answer_of (Err (NoCard place)) = refused 1 place
answer_of (Err (Misplaced place)) = refused 2 place
