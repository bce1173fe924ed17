-- Each turn compares bytes of one segment of each reel, behind those that are equal so far.
use Prim.Native.Nat.{◌-◌}
use Rattle.segments.proofs.SameLaws.{Comparing}
use Rattle.segments.proofs.same.Given as goal

abbrev pub invariant-loop-done : goal.invariant-loop-done
invariant-loop-done l = Comparing l.reel l.initial.at l.t l.initial.there l.n l.at l.there l.done

abbrev pub decreases-loop-done : goal.decreases-loop-done
decreases-loop-done l = l.n - l.done
