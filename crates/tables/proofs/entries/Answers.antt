-- Field by field: the table holds the entries of the fields so far, and nothing behind them.
use native.Mathlib.Omega.{arith}
use Rattle.tables.proofs.TableLaws.{fill_more, fill_end}
use Rattle.tables.proofs.entries.Goals as goal

pub loop-i-preserved : goal.loop-i-preserved
loop-i-preserved c =
    let l = c.loop-i in
    fill_more c.args.fields.now c.args.key c.requires.1 l.out l.i l.invariant (omega arith) _ (rw c.field_at-f.ensures at c.entry.ensures)

pub returns : goal.returns
returns c = fill_end _ _ _ _ c.loop-i.invariant c.loop-i-test.false
