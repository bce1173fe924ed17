-- `cards::limits_on` meets its contract: each return has passed the tests before it.
use borrow.Author.Tests.{eq-eqb, ne_eqb}
use Rattle.cards.specs.CardRefusals.{limits_of}
use Rattle.cards.proofs.limits_on.Goals as goal

pub returns-then-noted-ne0 : goal.returns-then-noted-ne0
unfolding limits_of
returns-then-noted-ne0 c = rw (ne_eqb _ 0 c.if-noted-ne0.true)

pub returns-then-column-ne0 : goal.returns-then-column-ne0
unfolding limits_of
returns-then-column-ne0 c = rw (eq-eqb _ 0 c.if-noted-ne0.false, ← c.u_outside-column.ensures, ne_eqb _ 0 c.if-column-ne0.true)

pub returns-then-noted-ne0-2 : goal.returns-then-noted-ne0-2
unfolding limits_of
returns-then-noted-ne0-2 c = rw (eq-eqb _ 0 c.if-noted-ne0.false, ← c.u_outside-column.ensures, eq-eqb _ 0 c.if-column-ne0.false, ne_eqb _ 0 c.if-noted-ne0-2.true)

pub returns : goal.returns
unfolding limits_of
returns c = rw (eq-eqb _ 0 c.if-noted-ne0.false, ← c.u_outside-column.ensures, eq-eqb _ 0 c.if-column-ne0.false, eq-eqb _ 0 c.if-noted-ne0-2.false)
