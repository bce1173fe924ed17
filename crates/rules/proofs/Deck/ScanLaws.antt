-- The cards of a deck line by line: what is known of the answer of refusal 1 once all lines have been seen, and that a line of no byte is no card.
-- By going along the lines.
use mathlib.Core.Path.{◌≡◌, ap, sym}
use mathlib.Core.Bool.{false}
use mathlib.Core.List.{List, map}
use mathlib.Core.Option.{some}
use Prim.Native.Nat.{ℕ}
use native.Mathlib.Omega.{arith}
use lib.ListN.{length}
use borrow.Author.Tests.{lt-leb}
use Rattle.rules.specs.Answer.{Answer, fine, refuse, Refusal, ◌>>=◌}
use Rattle.rules.specs.Deck.{tidy, Card, card_of}
use Rattle.rules.specs.Order.{cards_from}
use Rattle.rules.proofs.Base.AllLaws.{both_maps}
use Rattle.rules.proofs.Refusals.AnswerLaws.{reads_fine, not_fine}

-- a line of no byte
pub tidy_short : (l : List ℕ) → length l ≡ 0 → tidy l ≡ false
unfolding tidy
tidy_short l e = rw (lt-leb 1 (length l) (omega arith))

-- where each line is a card, these are the cards
pub cards_each : (i : ℕ) (ls : List (List ℕ)) (cs : List Card) → cards_from i ls ≡ fine cs → map card_of ls ≡ map some cs
cards_each i ls cs e = both_maps card_of some (λ l c q. q) (reads_fine 1 card_of i ls cs e)

-- what is made of a fine answer is fine, so a refusal was there before
pub made_refused : {A B : Type 0} (x : Answer A) (f : A → B) (r : Refusal) → (x >>= λ a. fine (f a)) ≡ refuse r → x ≡ refuse r
unfolding ◌>>=◌
made_refused (fine a) f r e = absurd (not_fine r (f a) (sym e))
made_refused (refuse q) f r e = let h : q ≡ r = cc in ap refuse h
