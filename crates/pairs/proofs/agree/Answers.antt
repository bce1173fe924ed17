-- Where the mode selects fields their parts are asked, and else whether the records are the same.
use mathlib.Core.Path.{sym, ◌∙◌}
use Rattle.pairs.proofs.AgreeLaws.{selecting_by, carried_told}
use Rattle.pairs.proofs.agree.Goals as goal

pub agree_selected-requires : goal.agree_selected-requires
agree_selected-requires c = selecting_by c.requires (sym c.selects.ensures ∙ c.if-selects.true)

pub returns-else-selects : goal.returns-else-selects
returns-else-selects c = carried_told (sym c.selects.ensures ∙ c.if-selects.false) _ c.same.result c.same.ensures
