-- `cards::nothing_asked` meets its contract: its parts are those of the definition.
use mathlib.Core.Path.{refl}
use Rattle.cards.specs.Promise.{nothing_asked}
use Rattle.cards.proofs.nothing_asked.Goals as goal

pub returns : goal.returns
unfolding nothing_asked
returns c = refl
