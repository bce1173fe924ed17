-- `cards::card_over` meets its contract: the loop's invariant is that the field stands on none of the cards before, so that its card is that among the cards from
-- here on. The measure is what is left of the deck.
use mathlib.Core.Path.{◌≡◌, refl, ap, sym, subst}
use mathlib.Core.List.{List}
use Prim.Native.Nat.{ℕ, ◌-◌}
use native.Mathlib.Numerals.{add-one}
use native.Mathlib.Omega.{arith}
use lib.ListN.{length-replicate}
use Rattle.rules.specs.Places.{All}
use Rattle.rules.specs.Deck.{fs_card}
use Rattle.rules.proofs.Base.AllLaws.{all_tail}
use Rattle.lines.specs.Meaning.{IsCard}
use Rattle.cards.specs.declared.CardAt.{CardAt}
use Rattle.cards.specs.declared.CardAt.TheVariants.{UAt, FsAt, NoOperand}
use Rattle.std.specs.Prelude.{Ok, Err}
use Rattle.cards.specs.declared.Noted.{Noted}
use Rattle.cards.specs.Selected.{NotedRow}
use Rattle.cards.specs.Deck.{OperandAt, CardAtSays}
use Rattle.cards.proofs.HolderLaws.{Seeking, Held, seeking_start, seeking_none, seeking_u, seeking_stop, seeking_key, seeking_found, seeking_more}
use Rattle.cards.proofs.DeckLaws.{lent_list}
use Rattle.cards.proofs.card_over.Goals as goal

pub loop-start-init : goal.loop-start-init
loop-start-init c =
    let a = c.args in
    (length-replicate {A = ℕ} 320 0, c.requires.all, omega (arith, ap (λ (n : Noted). n.key) c.nothing_noted-noted.ensures), subst (λ (n : Noted). Seeking a.deck.now a.from a.field n.count 2 a.from) (sym c.nothing_noted-noted.ensures) (seeking_start a.deck.now a.from a.field c.requires.fs_fine))

pub card_at-found-requires : goal.card_at-found-requires
card_at-found-requires c = c.loop-start.invariant.1

-- a card that is no `FsAt`
other : (deck : List ℕ) (from field : ℕ) (t : NotedRow) (card at : ℕ) (g : Seeking deck from field t.0.count card at) (r : CardAt) → CardAtSays deck at r
    → ((start end next : ℕ) → r ≡ FsAt start end next → ⊥) → Held deck from field t card at g 0
other deck from field t card at g (UAt start end next) h k = seeking_u deck from field t card at g (start - at) start end next h
other deck from field t card at g (FsAt start end next) h k = absurd (k start end next refl)
other deck from field t card at g NoOperand h k = seeking_none deck from field t card at g h

-- what stands here is an FS card
pub returns-in_default : goal.returns-in_default
returns-in_default c =
    let l = c.loop-start in
    let a = c.args in
    other a.deck.now a.from a.field (l.noted, l.row) l.card l.at l.invariant.3 c.card_at-found.result c.card_at-found.ensures c.in_default.not-FsAt

pub slice_bounds-list-count : goal.slice_bounds-list-count
slice_bounds-list-count c =
    let is_fs : OperandAt fs_card c.args.deck.now c.loop-start.at c.in-FsAt.start c.in-FsAt.end c.in-FsAt.next = subst (CardAtSays c.args.deck.now c.loop-start.at) c.in-FsAt.is c.card_at-found.ensures in
    is_fs.from

pub slice_bounds-list-start : goal.slice_bounds-list-start
slice_bounds-list-start c =
    let is_fs : OperandAt fs_card c.args.deck.now c.loop-start.at c.in-FsAt.start c.in-FsAt.end c.in-FsAt.next = subst (CardAtSays c.args.deck.now c.loop-start.at) c.in-FsAt.is c.card_at-found.ensures in
    is_fs.from

pub slice_bounds-list-end : goal.slice_bounds-list-end
slice_bounds-list-end c =
    let is_fs : OperandAt fs_card c.args.deck.now c.loop-start.at c.in-FsAt.start c.in-FsAt.end c.in-FsAt.next = subst (CardAtSays c.args.deck.now c.loop-start.at) c.in-FsAt.is c.card_at-found.ensures in
    is_fs.upto

pub list-requires : goal.list-requires
list-requires c =
    let is_fs : OperandAt fs_card c.args.deck.now c.loop-start.at c.in-FsAt.start c.in-FsAt.end c.in-FsAt.next = subst (CardAtSays c.args.deck.now c.loop-start.at) c.in-FsAt.is c.card_at-found.ensures in
    let l = c.loop-start in
    let h = is_fs in
    (l.invariant.0, omega arith, omega (arith, h.upto), l.invariant.2)

pub returns-then-field-noted : goal.returns-then-field-noted
returns-then-field-noted c =
    let is_fs : OperandAt fs_card c.args.deck.now c.loop-start.at c.in-FsAt.start c.in-FsAt.end c.in-FsAt.next = subst (CardAtSays c.args.deck.now c.loop-start.at) c.in-FsAt.is c.card_at-found.ensures in
    let l = c.loop-start in
    let a = c.args in
    let g = c.in-FsAt in
    let r = c.list in
    let n = c.in-Ok.more in
    let told = lent_list l.card (l.noted, l.row) a.deck.now g.start g.end is_fs.from (Ok n) r.new.row c.in-Ok.ensures.1 in
    seeking_found a.deck.now a.from a.field (l.noted, l.row) l.card l.at l.invariant.3 g.start g.end g.next is_fs n r.new.row told c.if-field-noted.true

pub overflow_add-card : goal.overflow_add-card
overflow_add-card c =
    let is_fs : OperandAt fs_card c.args.deck.now c.loop-start.at c.in-FsAt.start c.in-FsAt.end c.in-FsAt.next = subst (CardAtSays c.args.deck.now c.loop-start.at) c.in-FsAt.is c.card_at-found.ensures in
    let h = is_fs in let low = c.loop-start.invariant.3.low in omega (arith, h.on, h.within)

pub loop-start-smaller : goal.loop-start-smaller
loop-start-smaller c =
    let is_fs : OperandAt fs_card c.args.deck.now c.loop-start.at c.in-FsAt.start c.in-FsAt.end c.in-FsAt.next = subst (CardAtSays c.args.deck.now c.loop-start.at) c.in-FsAt.is c.card_at-found.ensures in
    let h = is_fs in omega (arith, h.on, h.within)

pub loop-start-preserved : goal.loop-start-preserved
loop-start-preserved c =
    let is_fs : OperandAt fs_card c.args.deck.now c.loop-start.at c.in-FsAt.start c.in-FsAt.end c.in-FsAt.next = subst (CardAtSays c.args.deck.now c.loop-start.at) c.in-FsAt.is c.card_at-found.ensures in
    let l = c.loop-start in
    let a = c.args in
    let g = c.in-FsAt in
    let r = c.list in
    let n = c.in-Ok.more in
    let told = lent_list l.card (l.noted, l.row) a.deck.now g.start g.end is_fs.from (Ok n) r.new.row c.in-Ok.ensures.1 in (
      r.ensures.0,
      all_tail (subst (All IsCard) is_fs.is l.invariant.1),
      omega (arith, seeking_key a.deck.now a.from a.field (l.noted, l.row) l.card l.at l.invariant.3 g.start g.end g.next is_fs n r.new.row told, l.invariant.2),
      rw (add-one l.card)
          (seeking_more a.deck.now a.from a.field (l.noted, l.row) l.card l.at l.invariant.3 g.start g.end g.next is_fs n r.new.row told c.if-field-noted.false),
    )

-- all of them can be read
pub returns-in_default-list : goal.returns-in_default-list
returns-in_default-list c =
    let is_fs : OperandAt fs_card c.args.deck.now c.loop-start.at c.in-FsAt.start c.in-FsAt.end c.in-FsAt.next = subst (CardAtSays c.args.deck.now c.loop-start.at) c.in-FsAt.is c.card_at-found.ensures in
    let l = c.loop-start in
    let a = c.args in
    let g = c.in-FsAt in
    let told = lent_list l.card (l.noted, l.row) a.deck.now g.start g.end is_fs.from (Err c.in_default-list.field-0) c.list.new.row c.in_default-list.ensures.1 in
    absurd (seeking_stop a.deck.now a.from a.field (l.noted, l.row) l.card l.at l.invariant.3 g.start g.end g.next is_fs c.in_default-list.field-0 c.list.new.row told)
