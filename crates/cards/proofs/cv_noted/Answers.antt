-- `cards::cv_noted` meets its contract: each way through its tests notes what the rule notes.
use borrow.Author.Tests.{eq-eqb, ne_eqb}
use Rattle.cards.specs.Selected.{cv_noted}
use Rattle.cards.proofs.cv_noted.Goals as goal

pub returns-then-noted-eq0 : goal.returns-then-noted-eq0
unfolding cv_noted
returns-then-noted-eq0 c = rw (eq-eqb _ 0 c.if-noted-eq0.true)

pub returns-then-noted-eq0-2 : goal.returns-then-noted-eq0-2
unfolding cv_noted
returns-then-noted-eq0-2 c = rw (ne_eqb _ 0 c.if-noted-eq0.false, eq-eqb _ 0 c.if-noted-eq0-2.true)

pub returns : goal.returns
unfolding cv_noted
returns c = rw (ne_eqb _ 0 c.if-noted-eq0.false, ne_eqb _ 0 c.if-noted-eq0-2.false)
