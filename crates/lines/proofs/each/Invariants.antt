-- `lines::each` meets its contract. The loop's invariant: all bytes pass where those before `byte` did, as `good` says, and those from there on do.
use Rattle.rules.proofs.Base.EveryPlaces.{Passing}
use Rattle.lines.proofs.each.Given as goal

abbrev pub invariant-loop-byte : goal.invariant-loop-byte
invariant-loop-byte g l = Passing g.test l.bytes l.good l.byte-index
