-- The header, and then the blocks.
use mathlib.Core.Path.{sym, ap, ◌∙◌, subst}
use Rattle.std.specs.Prelude.{Err}
use Rattle.std.proofs.lemmas.Result.{err_from_is_err_and}
use Rattle.pieces.proofs.PiecesLaws.{or_taken, or_missed}
use Rattle.turns.specs.Promise.{SpannedAs}
use Rattle.turns.proofs.ReadingLaws.{not_reel}
use Rattle.turns.proofs.read_spanned.Goals as goal

pub returns-in_err-blocks : goal.returns-in_err-blocks
returns-in_err-blocks c =
    let m = or_missed _ _ _ c.in_err-blocks.ensures.value in
    let r = err_from_is_err_and c.from_residual.result c.from_residual.ensures.1 in
    subst (SpannedAs c.args.g c.args.reel.now) (sym (r.1 ∙ ap Err (r.2 ∙ m.1))) (not_reel _ _ (sym c.header.ensures ∙ m.0))

pub read_blocks-requires : goal.read_blocks-requires
read_blocks-requires c = sym c.header.ensures ∙ or_taken _ _ _ c.in_ok-blocks.ensures.value
