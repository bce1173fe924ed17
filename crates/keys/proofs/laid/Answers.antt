-- `keys::laid` meets its contract: its first position is laid, and the rest of the field stays; what it reads is what its kind reads.
use mathlib.Core.Path.{refl}
use Rattle.terms.specs.Meaning.{field_of, card_field, laid}
use Rattle.terms.proofs.FieldLaws.{input_of_lem}
use Rattle.keys.proofs.laid.Goals as goal

pub returns : goal.returns
unfolding field_of laid card_field
returns c = (rw (c.laid_at.ensures, input_of_lem c.args.field), refl)
