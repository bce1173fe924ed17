-- `cards::read_ordered` meets its contract: the first card is a U card, and each way out is one of the ways in which the cards are read.
use mathlib.Core.Path.{ap, sym, ◌∙◌, subst}
use mathlib.Core.List.{List, []}
use Prim.Native.Nat.{ℕ, ◌+◌, ◌-◌}
use native.Mathlib.Omega.{arith}
use lib.ListN.{length, drop}
use lib.Seq.{slice}
use Rattle.rules.specs.Reader.{list_of}
use Rattle.rules.specs.Places.{All}
use Rattle.rules.specs.Deck.{u_card}
use Rattle.rules.specs.Grammar.{parameter}
use Rattle.rules.specs.Words.{worded}
use Rattle.rules.proofs.Base.Lists.{slice_part}
use Rattle.rules.proofs.Base.AllLaws.{all_tail}
use Rattle.rows.proofs.RowLaws.{length_row}
use Rattle.lines.specs.Meaning.{IsCard}
use Rattle.keys.specs.Keys.{key_of}
use Rattle.keys.proofs.KeyLaws.{key_most}
use Rattle.std.specs.Prelude.{Ok, Err}
use Rattle.std.specs.Prelude.{Result}
use Rattle.std.proofs.lemmas.Result.{err_from_is_err_and}
use Rattle.terms.specs.declared.Asked.{Asked}
use Rattle.cards.specs.declared.CardRefusal.{CardRefusal}
use Rattle.cards.specs.Selected.{no_selection}
use Rattle.cards.specs.Parameters.{UListed}
use Rattle.cards.specs.Deck.{cards_in, fs_first, OperandAt, CardAtSays, FsSaid}
use Rattle.cards.specs.Promise.{DeckReads}
use Rattle.cards.proofs.OrderedLaws.{all_cards, first_known, unread_u, unread_fs, all_read}
use Rattle.cards.proofs.RefusalLaws.{judged_refused, judged_asked}
use Rattle.cards.proofs.read_ordered.Goals as goal

pub card_at-first-requires : goal.card_at-first-requires
card_at-first-requires c = all_cards c.args.deck.now c.args.fs c.requires.in_order

-- the first card is a U card
-- and this was read of it
pub returns-in_default : goal.returns-in_default
returns-in_default c = absurd (first_known c.args.deck.now c.args.fs c.requires.in_order c.card_at-first.result c.card_at-first.ensures c.in_default.not-UAt)

pub slice_bounds-u_card-count : goal.slice_bounds-u_card-count
slice_bounds-u_card-count c =
    let is_u : OperandAt (u_card (c.in-UAt.start - 0)) c.args.deck.now 0 c.in-UAt.start c.in-UAt.end c.in-UAt.next = subst (CardAtSays c.args.deck.now 0) c.in-UAt.is c.card_at-first.ensures in
    is_u.from

pub slice_bounds-u_card-start : goal.slice_bounds-u_card-start
slice_bounds-u_card-start c =
    let is_u : OperandAt (u_card (c.in-UAt.start - 0)) c.args.deck.now 0 c.in-UAt.start c.in-UAt.end c.in-UAt.next = subst (CardAtSays c.args.deck.now 0) c.in-UAt.is c.card_at-first.ensures in
    is_u.from

pub slice_bounds-u_card-end : goal.slice_bounds-u_card-end
slice_bounds-u_card-end c =
    let is_u : OperandAt (u_card (c.in-UAt.start - 0)) c.args.deck.now 0 c.in-UAt.start c.in-UAt.end c.in-UAt.next = subst (CardAtSays c.args.deck.now 0) c.in-UAt.is c.card_at-first.ensures in
    is_u.upto

pub overflow_add-start : goal.overflow_add-start
overflow_add-start c =
    let is_u : OperandAt (u_card (c.in-UAt.start - 0)) c.args.deck.now 0 c.in-UAt.start c.in-UAt.end c.in-UAt.next = subst (CardAtSays c.args.deck.now 0) c.in-UAt.is c.card_at-first.ensures in
    let h = is_u in omega (arith, h.from, h.upto)

pub u_card-requires : goal.u_card-requires
u_card-requires c =
    let is_u : OperandAt (u_card (c.in-UAt.start - 0)) c.args.deck.now 0 c.in-UAt.start c.in-UAt.end c.in-UAt.next = subst (CardAtSays c.args.deck.now 0) c.in-UAt.is c.card_at-first.ensures in
    let h = is_u in (omega arith, omega (arith, h.from, h.upto))

pub returns-in_err-u : goal.returns-in_err-u
returns-in_err-u c =
    let deck = c.args.deck.now in
    let g = c.in-UAt in
    let is_u : OperandAt (u_card (g.start - 0)) deck 0 g.start g.end g.next = subst (CardAtSays deck 0) g.is c.card_at-first.ensures in
    let said : UListed (g.start + 1) (slice g.start g.end deck) (list_of "," (worded parameter) (slice g.start g.end deck)) (Err c.in_err-u.field-0.0)
    = subst (λ (o : List ℕ). UListed (g.start + 1) o (list_of "," (worded parameter) o) (Err c.in_err-u.field-0.0)) (sym (slice_part g.start g.end deck is_u.from)) c.in_err-u.ensures in
    let row = c.args.row.now in
    let p = err_from_is_err_and c.from_residual.result c.from_residual.ensures.1 in
    (ap length c.requires.row_value ∙ length_row [] (omega arith), rw (p.1, p.2) (unread_u deck c.args.fs c.requires.in_order g.start g.end g.next is_u _ said row))

pub fs_cards-requires : goal.fs_cards-requires
fs_cards-requires c =
    let deck = c.args.deck.now in
    let g = c.in-UAt in
    let is_u : OperandAt (u_card (g.start - 0)) deck 0 g.start g.end g.next = subst (CardAtSays deck 0) g.is c.card_at-first.ensures in
    record { all = all_tail (subst (All IsCard) is_u.is (all_cards deck c.args.fs c.requires.in_order)); row_value = (c.requires.row_value, omega (arith, c.key_length.ensures, key_most c.in_ok-u.u.state.input)) }

-- what was read of the FS cards, behind the key of the U card
pub returns-in_err-noted : goal.returns-in_err-noted
returns-in_err-noted c =
    let deck = c.args.deck.now in
    let g = c.in-UAt in
    let is_u : OperandAt (u_card (g.start - 0)) deck 0 g.start g.end g.next = subst (CardAtSays deck 0) g.is c.card_at-first.ensures in
    let said : UListed (g.start + 1) (slice g.start g.end deck) (list_of "," (worded parameter) (slice g.start g.end deck)) (Ok c.in_ok-u.u)
    = subst (λ (o : List ℕ). UListed (g.start + 1) o (list_of "," (worded parameter) o) (Ok c.in_ok-u.u)) (sym (slice_part g.start g.end deck is_u.from)) c.in_ok-u.ensures in
    let u = c.in_ok-u.u in
    let k = c.fs_cards in
    let said_fs : FsSaid 2 (no_selection (key_of u.state.input)) (fs_first (cards_in (drop g.next deck))) (Err c.in_err-noted.field-0.0) k.new.row
    = subst (λ (n : ℕ). FsSaid 2 (no_selection n) (fs_first (cards_in (drop g.next deck))) (Err c.in_err-noted.field-0.0) k.new.row) c.key_length.ensures c.in_err-noted.ensures.1 in
    let p = err_from_is_err_and c.from_residual-in_err-noted.result c.from_residual-in_err-noted.ensures.1 in
    (k.ensures.0, rw (p.1, p.2) (unread_fs deck c.args.fs c.requires.in_order g.start g.end g.next is_u u said _ k.new.row said_fs))

pub returns-in_err-refusal_on : goal.returns-in_err-refusal_on
returns-in_err-refusal_on c =
    let deck = c.args.deck.now in
    let g = c.in-UAt in
    let is_u : OperandAt (u_card (g.start - 0)) deck 0 g.start g.end g.next = subst (CardAtSays deck 0) g.is c.card_at-first.ensures in
    let said : UListed (g.start + 1) (slice g.start g.end deck) (list_of "," (worded parameter) (slice g.start g.end deck)) (Ok c.in_ok-u.u)
    = subst (λ (o : List ℕ). UListed (g.start + 1) o (list_of "," (worded parameter) o) (Ok c.in_ok-u.u)) (sym (slice_part g.start g.end deck is_u.from)) c.in_ok-u.ensures in
    let u = c.in_ok-u.u in
    let k = c.fs_cards in
    let said_fs : FsSaid 2 (no_selection (key_of u.state.input)) (fs_first (cards_in (drop g.next deck))) (Ok c.in_ok-noted.noted) k.new.row
    = subst (λ (n : ℕ). FsSaid 2 (no_selection n) (fs_first (cards_in (drop g.next deck))) (Ok c.in_ok-noted.noted) k.new.row) c.key_length.ensures c.in_ok-noted.ensures.1 in
    let p = err_from_is_err_and c.from_residual-in_err-refusal_on.result c.from_residual-in_err-refusal_on.ensures.1 in
    let all = all_read deck c.args.fs c.requires.in_order g.start g.end g.next is_u u said c.in_ok-noted.noted k.new.row said_fs in
    (k.ensures.0, rw (p.1, p.2) (subst (λ (r : Result Asked CardRefusal). DeckReads deck r k.new.row) (judged_refused u.state u.outside c.in_ok-noted.noted c.args.fs _ c.in_err-refusal_on.ensures) all))

pub returns : goal.returns
returns c =
    let deck = c.args.deck.now in
    let g = c.in-UAt in
    let is_u : OperandAt (u_card (g.start - 0)) deck 0 g.start g.end g.next = subst (CardAtSays deck 0) g.is c.card_at-first.ensures in
    let said : UListed (g.start + 1) (slice g.start g.end deck) (list_of "," (worded parameter) (slice g.start g.end deck)) (Ok c.in_ok-u.u)
    = subst (λ (o : List ℕ). UListed (g.start + 1) o (list_of "," (worded parameter) o) (Ok c.in_ok-u.u)) (sym (slice_part g.start g.end deck is_u.from)) c.in_ok-u.ensures in
    let u = c.in_ok-u.u in
    let k = c.fs_cards in
    let said_fs : FsSaid 2 (no_selection (key_of u.state.input)) (fs_first (cards_in (drop g.next deck))) (Ok c.in_ok-noted.noted) k.new.row
    = subst (λ (n : ℕ). FsSaid 2 (no_selection n) (fs_first (cards_in (drop g.next deck))) (Ok c.in_ok-noted.noted) k.new.row) c.key_length.ensures c.in_ok-noted.ensures.1 in
    let all = all_read deck c.args.fs c.requires.in_order g.start g.end g.next is_u u said c.in_ok-noted.noted k.new.row said_fs in
    (k.ensures.0, rw c.asked_for.ensures (subst (λ (r : Result Asked CardRefusal). DeckReads deck r k.new.row) (judged_asked u.state u.outside c.in_ok-noted.noted c.args.fs _ c.in_ok-refusal_on.ensures) all))
