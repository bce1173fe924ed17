-- Before each turn the numbers below `to + j` are the field's, and the others are as they were.
use Prim.Native.Nat.{◌+◌}
use Rattle.sources.specs.Promise.{Put}
use Rattle.sources.proofs.Walk.{Upto}
use Rattle.sources.proofs.put_sources.Given as goal

abbrev pub invariant-loop-j : goal.invariant-loop-j
invariant-loop-j g l = Upto 0 (Put l.fn.f) l.initial.out l.out (l.to + l.j)
