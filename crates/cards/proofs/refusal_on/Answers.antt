-- `cards::refusal_on` meets its contract: each return has passed the tests before it, in the order of the numbers.
use mathlib.Core.Path.{sym, ◌∙◌}
use borrow.Author.Tests.{eq-eqb, ne_eqb}
use Rattle.cards.specs.CardRefusals.{card_refusal_of}
use Rattle.cards.proofs.refusal_on.Goals as goal

pub returns-then-parameters-ne0 : goal.returns-then-parameters-ne0
unfolding card_refusal_of
returns-then-parameters-ne0 c = rw (ne_eqb _ 0 c.if-parameters-ne0.true)

pub returns-then-noted-ne0 : goal.returns-then-noted-ne0
unfolding card_refusal_of
returns-then-noted-ne0 c = rw (eq-eqb _ 0 c.if-parameters-ne0.false, ne_eqb _ 0 c.if-noted-ne0.true)

pub returns-then-not-is_complete : goal.returns-then-not-is_complete
unfolding card_refusal_of
returns-then-not-is_complete c = rw (eq-eqb _ 0 c.if-parameters-ne0.false, eq-eqb _ 0 c.if-noted-ne0.false, sym c.is_complete.ensures ∙ c.if-not-is_complete.true)

pub returns : goal.returns
unfolding card_refusal_of
returns c = rw (eq-eqb _ 0 c.if-parameters-ne0.false, eq-eqb _ 0 c.if-noted-ne0.false, sym c.is_complete.ensures ∙ c.if-not-is_complete.false) c.limits_on.ensures
