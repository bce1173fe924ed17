-- `lines::line` meets its contract: behind what is passed the first line feed ends the line.
use mathlib.Core.Path.{ap, ◌∙◌}
use Rattle.lines.proofs.MeaningLaws.{before, lent_rest, line_says_none, line_says}
use Rattle.lines.proofs.line.Goals as goal

pub returns-then-deck-at : goal.returns-then-deck-at
returns-then-deck-at c = line_says_none c.args.deck.now c.args.at c.if-deck-at.true

pub returns : goal.returns
returns c =
    let d = c.args.deck.now in
    let from = c.passed-from.result in
    line_says d c.args.at from c.bytes_before.result c.min-next.result c.if-deck-at.false c.passed-from.ensures
    (c.bytes_before.ensures.value ∙ ap (before 0x0A) (lent_rest d from))
    c.min-next.ensures
