-- Before each turn what stands from the place reached on is the right end of the unpacked field, two bytes for each byte of src that is done.
use Rattle.halves.proofs.UnpackPairs.{Pairs}
use Rattle.halves.proofs.put_pairs.Given as goal

abbrev pub invariant-loop-done : goal.invariant-loop-done
invariant-loop-done l = Pairs l.src l.dst l.end l.done
