-- The halves below `from + j` have met the field, and the others are as they were.
use Prim.Native.Nat.{◌+◌}
use Rattle.sources.proofs.Walk.{Upto}
use Rattle.keeping.specs.Marks.{Met}
use Rattle.keeping.proofs.mark_field.Given as goal

abbrev pub invariant-loop-j : goal.invariant-loop-j
invariant-loop-j l = Upto 0 (Met l.f) l.initial.marks l.marks (l.from + l.j)
