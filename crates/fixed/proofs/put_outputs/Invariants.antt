-- Each turn puts the output of one record more.
use Prim.Native.Nat.{◌-◌}
use lib.ListN.{length}
use Rattle.fixed.proofs.OutputLaws.{Outputting}
use Rattle.fixed.proofs.put_outputs.Given as goal

abbrev pub invariant-loop-at : goal.invariant-loop-at
invariant-loop-at l = Outputting l.fields l.n l.width l.data l.initial.out l.out l.at l.to

abbrev pub decreases-loop-at : goal.decreases-loop-at
decreases-loop-at l = length l.data - l.at
