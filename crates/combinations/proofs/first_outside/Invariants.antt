-- The fields one after the other: while none was outside, the first one outside among those left is the first of all.
use Rattle.combinations.proofs.OutsideLaws.{Seeking}
use Rattle.combinations.proofs.first_outside.Given as goal

abbrev pub invariant-loop-i : goal.invariant-loop-i
invariant-loop-i l = Seeking l.fields l.a l.b l.i
