-- The answer is that of the filling that was made: a deck that leaves room is whole, and one that fills it is judged.
use mathlib.Core.List.{[]}
use borrow.Author.Rules.{rules}
use Rattle.std.specs.Prelude.{None}
use Rattle.inputs.proofs.deck.Goals as goal

pub returns-in-Ok-eq65536-clause-deck_bytes_says : goal.returns-in-Ok-eq65536-clause-deck_bytes_says
returns-in-Ok-eq65536-clause-deck_bytes_says g c =
    let j = c.longer.ensures.long_deck_says in (c.fill.result, j.0, j.1, search rules, search rules, search rules)

pub returns-in_default-clause-deck_bytes_says : goal.returns-in_default-clause-deck_bytes_says
returns-in_default-clause-deck_bytes_says g c = (c.fill.result, [], None, search rules, search rules, search rules)
