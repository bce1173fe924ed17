-- Five stores in a row are the five numbers of the field.
use mathlib.Core.Path.{◌∙◌}
use native.Mathlib.Omega.{arith}
use Rattle.terms.proofs.FieldLaws.{number_of}
use Rattle.rows.proofs.FlatLaws.{put_field}
use Rattle.rows.proofs.put_numbers.Goals as goal

pub returns : goal.returns
returns c =
    put_field c.args.row.now c.args.at c.args.f _ _ (omega arith) (c.from.ensures ∙ c.kind_number.ensures ∙ number_of c.args.f) c.output_size.ensures
