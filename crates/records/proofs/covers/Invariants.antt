-- `records::covers` meets its contract: before each turn the fields before place i cover so many bytes.
use Rattle.records.proofs.CoverLaws.{Reaching}
use Rattle.records.proofs.covers.Given as goal

abbrev pub invariant-loop-i : goal.invariant-loop-i
invariant-loop-i l = Reaching l.fields l.covered l.i
