-- The seen marks are those of the output halves below i.
use Rattle.sources.proofs.Seen.{Seen}
use Rattle.keeping.proofs.see.Given as goal

abbrev pub invariant-loop-i : goal.invariant-loop-i
invariant-loop-i l = Seen l.sources l.i l.seen
