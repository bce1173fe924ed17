-- `limits::field_outside` meets its contract: of the columns of the four numbers the first that is not 0 is taken, in the order of the card.
use Rattle.limits.proofs.LimitLaws.{field_first}
use Rattle.limits.proofs.field_outside.Goals as goal

pub returns : goal.returns
returns c =
    let a = c.args in
    rw (
      c.first_of-3.ensures,
      c.first_of-2.ensures,
      c.first_of.ensures,
      c.number_outside-t.ensures,
      c.number_outside-output.ensures,
      c.number_outside-input.ensures,
      c.number_outside-r.ensures,
      c.most-most.ensures,
    )
    (field_first a.part a.field a.places a.column c.requires.0 c.requires.1)
