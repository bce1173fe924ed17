-- `cards::read_cards` meets its contract: the refusal of the order, or what a deck in order says.
use mathlib.Core.Path.{ap, sym, ◌∙◌}
use mathlib.Core.List.{[]}
use native.Mathlib.Omega.{arith}
use lib.ListN.{length}
use Rattle.rows.proofs.RowLaws.{length_row}
use Rattle.lines.proofs.PromiseLaws.{answer_refused}
use Rattle.cards.proofs.OrderedLaws.{order_refused, order_many, in_order}
use Rattle.cards.proofs.read_cards.Goals as goal

pub overflow_sub-cards : goal.overflow_sub-cards
overflow_sub-cards c = order_many c.args.deck.now c.in-Ok.cards (sym c.in-Ok.ensures)

pub read_ordered-requires : goal.read_ordered-requires
read_ordered-requires c = record { in_order = in_order c.args.deck.now c.in-Ok.cards (sym c.in-Ok.ensures); row_value = c.requires }

pub returns-in-Err : goal.returns-in-Err
returns-in-Err c =
    let d = c.in-Err.disorder in
    let row = c.args.row.now in (
      ap length c.requires ∙ length_row [] (omega arith),
      rw (c.number.ensures, c.place.ensures) (order_refused c.args.deck.now _ _ (sym c.in-Err.ensures ∙ answer_refused d) row),
    )
