-- `records::put_fields` meets its contract: before each turn the first i fields stand over the output.
use Rattle.records.proofs.PutLaws.{Writing}
use Rattle.records.proofs.put_fields.Given as goal

abbrev pub invariant-loop-i : goal.invariant-loop-i
invariant-loop-i l = Writing l.fields l.record l.initial.out l.out l.i
