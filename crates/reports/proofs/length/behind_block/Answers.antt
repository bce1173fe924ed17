-- A piece lies behind its place and inside the block, so that fewer bytes are left at each turn.
use Rattle.std.proofs.Common.{length, arith, subst, sym, ap, ◌∙◌, Ok}
use Rattle.terms.specs.Meaning.{format_of}
use Rattle.pieces.proofs.PiecesLaws.{further, piece_further}
use Rattle.reports.proofs.length.behind_block.Goals as goal

pub loop-piece-smaller : goal.loop-piece-smaller
loop-piece-smaller c =
    let form = c.form_of-form.result in
    let b = c.args.b.now in
    let at = c.loop-piece.at.at in
    let on = subst (further at (length b)) (sym c.piece.ensures ∙ c.in-Ok-Some.is ∙ ap Ok c.in-Ok-Some.field-0-is) (piece_further (format_of form.format) form.n b at) in
    omega (arith, on)
