-- Each turn puts bytes of one segment behind those before.
use Prim.Native.Nat.{◌-◌}
use Rattle.segments.proofs.CopyLaws.{Copying}
use Rattle.segments.proofs.copy.Given as goal

abbrev pub invariant-loop-done : goal.invariant-loop-done
invariant-loop-done l = Copying l.reel l.initial.at l.n l.initial.out l.out l.at l.done

abbrev pub decreases-loop-done : goal.decreases-loop-done
decreases-loop-done l = l.n - l.done
