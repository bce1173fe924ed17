-- Each turn looks at one offset of the input more.
use Rattle.offsets.proofs.EachLaws.{Putting}
use Rattle.offsets.proofs.put_each.Given as goal

abbrev pub invariant-loop-i : goal.invariant-loop-i
invariant-loop-i l = Putting l.n l.w l.reel l.from l.base l.count l.initial.out l.out l.at l.i
