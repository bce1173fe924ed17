-- By the three bits of the mark.
use mathlib.Core.Path.{sym, ◌∙◌}
use Rattle.keeping.proofs.Meets.{lowest_digit, lowest_letter, lowest_none, lowest_zone}
use Rattle.keeping.proofs.lowest.Goals as goal

pub returns-then-mark-eq0 : goal.returns-then-mark-eq0
returns-then-mark-eq0 c = lowest_digit _ c.if-mark-eq0.true

pub returns-then-mark-eq1 : goal.returns-then-mark-eq1
returns-then-mark-eq1 c = lowest_letter _ c.if-mark-eq1.true

pub returns-then-is_barren : goal.returns-then-is_barren
returns-then-is_barren c = lowest_none _ (sym c.is_barren.ensures ∙ c.if-is_barren.true)

pub returns-else-is_barren : goal.returns-else-is_barren
returns-else-is_barren c = lowest_zone _ c.if-mark-eq0.false c.if-mark-eq1.false (sym c.is_barren.ensures ∙ c.if-is_barren.false)
