-- Every half has a permitted value where those before the mark have, as `good` says, and those from it on have.
use Rattle.rules.proofs.Base.EveryPlaces.{Passing}
use Rattle.keeping.proofs.Searches.{fruitful}
use Rattle.keeping.proofs.is_fruitful.Given as goal

abbrev pub invariant-loop-mark : goal.invariant-loop-mark
invariant-loop-mark l = Passing fruitful l.marks l.good l.mark-index
