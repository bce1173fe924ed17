-- Field by field: the table holds the entries of the fields so far, and nothing behind them.
use Rattle.tables.proofs.TableLaws.{Filling}
use Rattle.tables.proofs.entries.Given as goal

abbrev pub invariant-loop-i : goal.invariant-loop-i
invariant-loop-i l = Filling l.fields l.key l.out l.i
