-- `cards::card_on` meets its contract: by what card the line is; the operand stands on the line, so its place is in the deck.
use mathlib.Core.Path.{◌≡◌, ap, ◌∙◌, subst}
use mathlib.Core.Option.{some}
use mathlib.Core.List.{List}
use Prim.Native.Nat.{ℕ, ◌+◌, ◌-◌}
use native.Mathlib.Omega.{arith}
use lib.Seq.{slice}
use Rattle.rules.specs.Deck.{u_card, fs_card, card_of}
use Rattle.rules.proofs.Base.Lists.{slice_part}
use Rattle.lines.specs.declared.CardRead.TheVariants.{UCard, FsCard, EndCard}
use Rattle.lines.specs.Meaning.{IsCard}
use Rattle.cards.proofs.DeckLaws.{lent_line, line_card, operand_at, end_at}
use Rattle.cards.proofs.card_on.Goals as goal

pub operand-read-requires : goal.operand-read-requires
operand-read-requires c =
    let a = c.args in
    let p = c.requires in
    subst (λ (l : List ℕ). IsCard (card_of l)) (slice_part a.at a.line.end a.deck.now p.line_says.1) (line_card a.deck.now a.at a.line p.line_says p.all)

pub returns-in-UCard : goal.returns-in-UCard
returns-in-UCard c =
    let a = c.args in
    let p = c.requires.line_says in
    let e = lent_line a.deck.now a.at a.line p (UCard c.in-UCard.start c.in-UCard.end) c.in-UCard.ensures in
    let k : c.in-UCard.start ≡ a.at + c.in-UCard.start - a.at = omega arith in
    operand_at a.deck.now a.at a.line p (u_card (a.at + c.in-UCard.start - a.at)) c.in-UCard.start c.in-UCard.end e.1 e.2
    (e.3 ∙ ap (λ (n : ℕ). some (u_card n (slice c.in-UCard.start c.in-UCard.end (slice a.at a.line.end a.deck.now)))) k)

pub returns-in-FsCard : goal.returns-in-FsCard
returns-in-FsCard c =
    let a = c.args in
    let p = c.requires.line_says in
    let e = lent_line a.deck.now a.at a.line p (FsCard c.in-FsCard.start c.in-FsCard.end) c.in-FsCard.ensures in
    operand_at a.deck.now a.at a.line p fs_card c.in-FsCard.start c.in-FsCard.end e.1 e.2 e.3

pub returns-in-EndCard : goal.returns-in-EndCard
returns-in-EndCard c =
    let a = c.args in
    let p = c.requires.line_says in
    end_at a.deck.now a.at a.line p (lent_line a.deck.now a.at a.line p EndCard c.in-EndCard.ensures)
