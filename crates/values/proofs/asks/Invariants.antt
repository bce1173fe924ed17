-- `values::asks` meets its contract: before each turn the fields before place i are copies.
use Rattle.rules.specs.Halves.{Field}
use Rattle.values.specs.Promise.{takes_any}
use Rattle.values.proofs.WalkLaws.{Left}
use Rattle.values.proofs.asks.Given as goal

abbrev pub invariant-loop-i : goal.invariant-loop-i
invariant-loop-i l = Left (λ (f : Field). takes_any f.kind) l.fields l.i
