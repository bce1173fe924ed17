-- The walk tells whether theirs has a further record.
use mathlib.Core.Path.{sym, subst}
use Rattle.pairs.specs.Promise.{Lacks}
use Rattle.pairs.proofs.PairLaws.{lacks_one, lacks_none}
use Rattle.pairs.proofs.lacking.Goals as goal

pub returns-in_err-record : goal.returns-in_err-record
returns-in_err-record c = subst (Lacks c.args.form c.args.theirs.now c.args.v c.args.number) (sym c.from_residual.ensures) (lacks_none c.in_err-record.ensures)

pub returns : goal.returns
returns c = lacks_one c.in_ok-record.ensures
