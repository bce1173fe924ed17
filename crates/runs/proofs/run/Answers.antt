-- Refused, or finished and written.
use native.Mathlib.Omega.{arith}
use Rattle.runs.proofs.WriteLaws.{ran_refused, finishing, ran_written}
use Rattle.runs.proofs.run.Goals as goal

pub returns-then-refusal-gt0 : goal.returns-then-refusal-gt0
returns-then-refusal-gt0 c = ran_refused c.args.out.now c.check-answer.ensures (omega (arith, c.if-refusal-gt0.true))

pub write-requires : goal.write-requires
write-requires c = finishing c.args.out.now c.check-answer.ensures c.if-refusal-gt0.false c.requires

pub returns : goal.returns
returns c = ran_written c.args.out.now c.check-answer.ensures c.if-refusal-gt0.false _ c.write.ensures
