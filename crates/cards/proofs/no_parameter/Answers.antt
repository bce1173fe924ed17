-- `cards::no_parameter` meets its contract: it makes just that state.
use mathlib.Core.Path.{refl}
use Rattle.cards.specs.Parameters.{no_parameter}
use Rattle.cards.proofs.no_parameter.Goals as goal

pub returns : goal.returns
unfolding no_parameter
returns c = refl
