-- By the mode: all at once, or record after record.
use mathlib.Core.Path.{refl, sym, ◌∙◌}
use Rattle.fixed.proofs.OutputLaws.{bytes_copied, bytes_selected}
use Rattle.fixed.proofs.put_bytes.Goals as goal

pub returns-then-selects : goal.returns-then-selects
returns-then-selects c = bytes_selected _ _ _ _ _ c.requires refl (sym c.selects.ensures ∙ c.if-selects.true) c.put_outputs.ensures

pub returns-else-selects : goal.returns-else-selects
returns-else-selects c = bytes_copied _ _ _ _ _ c.requires refl (sym c.selects.ensures ∙ c.if-selects.false) c.copy.ensures
