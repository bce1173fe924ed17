-- After the last turn all bytes of part are the record's.
use native.Mathlib.Omega.{arith}
use Rattle.twin_records.proofs.RecordLaws.{filled}
use Rattle.twin_records.proofs.put_record.Goals as goal

pub returns : goal.returns
returns c = filled _ _ _ c.loop-i.auto.part (λ j l. c.loop-i.invariant j (omega arith))
