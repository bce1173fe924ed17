-- `lines::order` meets its contract. The loop's invariant: judging the lines from `at` on comes to what judging all of the deck's lines comes to.
-- The measure is what is left of the deck.
use mathlib.Core.Path.{sym, ap, ◌∙◌, subst}
use mathlib.Core.List.{List}
use Prim.Native.Nat.{ℕ}
use native.Mathlib.Omega.{arith}
use Rattle.rules.specs.Deck.{card_of}
use Rattle.rules.proofs.Base.Lists.{slice_part}
use Rattle.lines.specs.Ordering.{card_kind_of, with_line, order_of}
use Rattle.lines.proofs.SeenLaws.{Left, left_line, left_none, deck_seen}
use Rattle.lines.proofs.order.Goals as goal

pub loop-end-preserved : goal.loop-end-preserved
loop-end-preserved c =
    let d = c.args.deck.now in
    let l = c.loop-end in
    let line = c.in-Some.field-0 in
    subst (Left d line.next)
    (sym
    (c.with_line-seen.ensures
    ∙ ap (with_line l.seen)
    (c.kind.ensures ∙ ap (λ (x : List ℕ). card_kind_of (card_of x)) (sym (slice_part l.at line.end d c.in-Some.ensures.1)))))
    (left_line d l.at line l.seen c.in-Some.ensures l.invariant)

pub returns : goal.returns
returns c =
    let d = c.args.deck.now in
    let l = c.loop-end in
    c.order_of.ensures ∙ ap order_of (sym (left_none d l.at l.seen c.in_default.ensures l.invariant)) ∙ deck_seen d (omega arith)
