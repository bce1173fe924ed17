-- `cards::with_parameter` meets its contract: by whether its letter has stood; a letter is below 7, so that it has a place.
use mathlib.Core.Path.{sym}
use native.Mathlib.Omega.{arith}
use Rattle.readers.specs.Meaning.{parameter_of}
use Rattle.cards.specs.Parameters.{with_second, with_letter, with_parameter}
use Rattle.cards.proofs.ParameterLaws.{letter_small}
use Rattle.cards.proofs.with_parameter.Goals as goal

pub bounds-state-at : goal.bounds-state-at
bounds-state-at c = omega (arith, c.letter-at.ensures, letter_small (parameter_of c.args.parameter))

pub returns-then-state-at : goal.returns-then-state-at
unfolding with_parameter with_second
returns-then-state-at c = rw (sym c.letter-at.ensures, c.if-state-at.true, c.first_of.ensures)

pub bounds-next-at : goal.bounds-next-at
bounds-next-at c = omega (arith, c.letter-at.ensures, letter_small (parameter_of c.args.parameter))

pub returns : goal.returns
unfolding with_parameter with_letter
returns c = rw (sym c.letter-at.ensures, c.if-state-at.false, c.with_part-next.ensures)
