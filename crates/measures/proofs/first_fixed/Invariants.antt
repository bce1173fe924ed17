-- Each turn asks one record more, n bytes on.
use Prim.Native.Nat.{◌-◌}
use lib.ListN.{length}
use Rattle.measures.proofs.FixedSeek.{Asking}
use Rattle.measures.proofs.first_fixed.Given as goal

abbrev pub invariant-loop-at : goal.invariant-loop-at
invariant-loop-at l = Asking l.n l.first l.fields l.data l.at l.number

abbrev pub decreases-loop-at : goal.decreases-loop-at
decreases-loop-at l = length l.data - l.at
