-- `limits::first_of` meets its contract: each way through its test gives what the rule gives.
use borrow.Author.Tests.{eq-eqb, ne_eqb}
use Rattle.limits.proofs.first_of.Goals as goal

pub returns-then-noted-eq0 : goal.returns-then-noted-eq0
returns-then-noted-eq0 c = rw (eq-eqb _ 0 c.if-noted-eq0.true)

pub returns : goal.returns
returns c = rw (ne_eqb _ 0 c.if-noted-eq0.false)
