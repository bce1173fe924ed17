-- The block's word, and whether it says the block's length.
use mathlib.Core.Path.{sym, ◌∙◌}
use Rattle.pieces.proofs.PiecesLaws.{variable_said, variable_none}
use Rattle.pieces.proofs.variable_start.Goals as goal

pub returns-in_err-length : goal.returns-in_err-length
returns-in_err-length c = c.from_residual.ensures ∙ variable_none _ (sym c.in_err-length.ensures)

pub returns : goal.returns
returns c = c.then_some.ensures ∙ variable_said _ _ (sym c.in_ok-length.ensures)
