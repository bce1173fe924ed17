-- `readers::number` meets its contract. The loop's invariant: `used` digits of that value are read.
use Rattle.rules.proofs.Grammar.NumberLaws.{Reading}
use Rattle.readers.proofs.number.Given as goal

abbrev pub invariant-loop-used : goal.invariant-loop-used
invariant-loop-used l = Reading l.s l.used l.value
