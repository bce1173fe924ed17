-- `cards::field_noted` meets its contract: the field is fieldCounted and its part noted, and of the first with a number outside its limits card and column are noted.
use mathlib.Core.Path.{◌≡◌, ap, ◌∙◌}
use borrow.Author.Tests.{eq-eqb, ne_eqb}
use Rattle.terms.specs.Meaning.{part_of}
use Rattle.cards.specs.declared.Noted.{Noted}
use Rattle.cards.specs.Selected.{field_counted, key_noted, field_noted}
use Rattle.cards.proofs.field_noted.Goals as goal

-- fieldCounted, with its part
pub returns-then-outside-eq0 : goal.returns-then-outside-eq0
unfolding field_noted
returns-then-outside-eq0 c =
    let next : let a = c.args in c.key_noted-next.result ≡ key_noted (field_counted a.noted a.card) a.card (part_of a.part) = let a = c.args in c.key_noted-next.ensures ∙ ap (λ (n : Noted). key_noted n a.card (part_of a.part)) c.counted.ensures in
    rw (eq-eqb _ 0 c.if-outside-eq0.true) next

pub returns-then-noted-eq0 : goal.returns-then-noted-eq0
unfolding field_noted
returns-then-noted-eq0 c =
    let next : let a = c.args in c.key_noted-next.result ≡ key_noted (field_counted a.noted a.card) a.card (part_of a.part) = let a = c.args in c.key_noted-next.ensures ∙ ap (λ (n : Noted). key_noted n a.card (part_of a.part)) c.counted.ensures in
    rw (ne_eqb _ 0 c.if-outside-eq0.false, eq-eqb _ 0 c.if-noted-eq0.true, next)

pub returns-else-noted-eq0 : goal.returns-else-noted-eq0
unfolding field_noted
returns-else-noted-eq0 c =
    let next : let a = c.args in c.key_noted-next.result ≡ key_noted (field_counted a.noted a.card) a.card (part_of a.part) = let a = c.args in c.key_noted-next.ensures ∙ ap (λ (n : Noted). key_noted n a.card (part_of a.part)) c.counted.ensures in
    rw (ne_eqb _ 0 c.if-outside-eq0.false, ne_eqb _ 0 c.if-noted-eq0.false) next
