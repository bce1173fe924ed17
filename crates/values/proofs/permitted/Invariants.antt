-- `values::permitted` meets its contract: before each turn what is left to ask is of the fields from i on.
use Rattle.values.proofs.WalkLaws.{Left}
use Rattle.values.proofs.CheckLaws.{may_read}
use Rattle.values.proofs.permitted.Given as goal

abbrev pub invariant-loop-i : goal.invariant-loop-i
invariant-loop-i l = Left (may_read l.record) l.fields l.i
