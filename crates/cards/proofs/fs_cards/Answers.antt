-- `cards::fs_cards` meets its contract: the loop's invariant is that what is right of the cards from here on is right of all cards. The measure is what is left of
-- the deck.
use mathlib.Core.Path.{◌≡◌, refl, ap, sym, ◌∙◌, subst}
use mathlib.Core.List.{List, []}
use Prim.Native.Nat.{ℕ, ◌-◌}
use native.Mathlib.Numerals.{add-one}
use native.Mathlib.Omega.{arith}
use lib.ListN.{length, drop}
use Rattle.rules.specs.Places.{All}
use Rattle.rules.specs.Deck.{fs_card}
use Rattle.rules.proofs.Base.AllLaws.{all_tail}
use Rattle.rows.specs.Kept.{row_of}
use Rattle.rows.proofs.RowLaws.{length_row}
use Rattle.lines.specs.Meaning.{IsCard}
use Rattle.cards.specs.declared.CardAt.{CardAt}
use Rattle.cards.specs.declared.CardAt.TheVariants.{UAt, FsAt, NoOperand}
use Rattle.std.specs.Prelude.{Ok, Err}
use Rattle.cards.specs.declared.Noted.{Noted}
use Rattle.cards.specs.Selected.{NotedRow, nothing_noted, no_selection}
use Rattle.cards.specs.Deck.{cards_in, fs_first, OperandAt, CardAtSays, FsSaid}
use Rattle.cards.proofs.ListedLaws.{key_kept}
use Rattle.cards.proofs.DeckLaws.{Selecting, selecting_start, selecting_none, selecting_u, selecting_stop, selecting_more, lent_list}
use Rattle.cards.proofs.fs_cards.Goals as goal

start : (deck : List ℕ) (from key : ℕ) (n : Noted) (row : List ℕ) → n ≡ nothing_noted key → row ≡ row_of [] → Selecting deck from key (n, row) 2 from
unfolding no_selection
start deck from key n row e f = subst (λ (t : NotedRow). Selecting deck from key t 2 from) (λ i. (sym e i, sym f i)) (selecting_start deck from key)

pub loop-start-init : goal.loop-start-init
loop-start-init c =
    let a = c.args in (
      ap length c.requires.row_value.0 ∙ length_row [] (omega arith),
      c.requires.all,
      omega (arith, ap (λ (n : Noted). n.key) c.nothing_noted-noted.ensures, c.requires.row_value.1),
      start a.deck.now a.from a.key _ a.row.now c.nothing_noted-noted.ensures c.requires.row_value.0,
    )

pub card_at-found-requires : goal.card_at-found-requires
card_at-found-requires c = c.loop-start.invariant.1

-- a card that is no `FsAt`
other : (deck : List ℕ) (from key : ℕ) (t : NotedRow) (card at : ℕ) → Selecting deck from key t card at → (r : CardAt) → CardAtSays deck at r
    → ((start end next : ℕ) → r ≡ FsAt start end next → ⊥)
    → FsSaid 2 (no_selection key) (fs_first (cards_in (drop from deck))) (Ok t.0) t.1
other deck from key t card at g (UAt start end next) h k = selecting_u deck from key t card at g (start - at) start end next h
other deck from key t card at g (FsAt start end next) h k = absurd (k start end next refl)
other deck from key t card at g NoOperand h k = selecting_none deck from key t card at g h

-- what stands here is an FS card
pub returns-in_default : goal.returns-in_default
returns-in_default c =
    let l = c.loop-start in
    let a = c.args in
    (l.invariant.0, other a.deck.now a.from a.key (l.noted, l.row) l.card l.at l.invariant.3 c.card_at-found.result c.card_at-found.ensures c.in_default.not-FsAt)

pub slice_bounds-list-count : goal.slice_bounds-list-count
slice_bounds-list-count c =
    let is_fs : OperandAt fs_card c.args.deck.now c.loop-start.at c.in-FsAt.start c.in-FsAt.end c.in-FsAt.next = subst (CardAtSays c.args.deck.now c.loop-start.at) c.in-FsAt.is c.card_at-found.ensures in
    is_fs.from

pub slice_bounds-list-start : goal.slice_bounds-list-start
slice_bounds-list-start c =
    let is_fs : OperandAt fs_card c.args.deck.now c.loop-start.at c.in-FsAt.start c.in-FsAt.end c.in-FsAt.next = subst (CardAtSays c.args.deck.now c.loop-start.at) c.in-FsAt.is c.card_at-found.ensures in
    is_fs.from

pub slice_bounds-list-end : goal.slice_bounds-list-end
slice_bounds-list-end c =
    let is_fs : OperandAt fs_card c.args.deck.now c.loop-start.at c.in-FsAt.start c.in-FsAt.end c.in-FsAt.next = subst (CardAtSays c.args.deck.now c.loop-start.at) c.in-FsAt.is c.card_at-found.ensures in
    is_fs.upto

pub list-requires : goal.list-requires
list-requires c =
    let is_fs : OperandAt fs_card c.args.deck.now c.loop-start.at c.in-FsAt.start c.in-FsAt.end c.in-FsAt.next = subst (CardAtSays c.args.deck.now c.loop-start.at) c.in-FsAt.is c.card_at-found.ensures in
    let l = c.loop-start in
    let h = is_fs in
    (l.invariant.0, omega arith, omega (arith, h.upto), l.invariant.2)

pub returns-in-Err : goal.returns-in-Err
returns-in-Err c =
    let is_fs : OperandAt fs_card c.args.deck.now c.loop-start.at c.in-FsAt.start c.in-FsAt.end c.in-FsAt.next = subst (CardAtSays c.args.deck.now c.loop-start.at) c.in-FsAt.is c.card_at-found.ensures in
    let l = c.loop-start in
    let a = c.args in
    let g = c.in-FsAt in
    let r = c.list in
    let told = lent_list l.card (l.noted, l.row) a.deck.now g.start g.end is_fs.from (Err c.in-Err.column) r.new.row c.in-Err.ensures.1 in
    (r.ensures.0, selecting_stop a.deck.now a.from a.key (l.noted, l.row) l.card l.at l.invariant.3 g.start g.end g.next is_fs r.new.row c.in-Err.column told)

pub overflow_add-card : goal.overflow_add-card
overflow_add-card c =
    let is_fs : OperandAt fs_card c.args.deck.now c.loop-start.at c.in-FsAt.start c.in-FsAt.end c.in-FsAt.next = subst (CardAtSays c.args.deck.now c.loop-start.at) c.in-FsAt.is c.card_at-found.ensures in
    let h = is_fs in let low = c.loop-start.invariant.3.low in omega (arith, h.on, h.within)

pub loop-start-smaller : goal.loop-start-smaller
loop-start-smaller c =
    let is_fs : OperandAt fs_card c.args.deck.now c.loop-start.at c.in-FsAt.start c.in-FsAt.end c.in-FsAt.next = subst (CardAtSays c.args.deck.now c.loop-start.at) c.in-FsAt.is c.card_at-found.ensures in
    let h = is_fs in omega (arith, h.on, h.within)

pub loop-start-preserved : goal.loop-start-preserved
loop-start-preserved c =
    let is_fs : OperandAt fs_card c.args.deck.now c.loop-start.at c.in-FsAt.start c.in-FsAt.end c.in-FsAt.next = subst (CardAtSays c.args.deck.now c.loop-start.at) c.in-FsAt.is c.card_at-found.ensures in
    let l = c.loop-start in
    let a = c.args in
    let g = c.in-FsAt in
    let r = c.list in
    let n = c.in-Ok.more in
    let told = lent_list l.card (l.noted, l.row) a.deck.now g.start g.end is_fs.from (Ok n) r.new.row c.in-Ok.ensures.1 in (
      r.ensures.0,
      all_tail (subst (All IsCard) is_fs.is l.invariant.1),
      omega (arith, key_kept l.card (l.noted, l.row) _ n _ told, l.invariant.2),
      rw (add-one l.card)
          (selecting_more a.deck.now a.from a.key (l.noted, l.row) l.card l.at l.invariant.3 g.start g.end g.next is_fs r.new.row n told),
    )
