-- A piece lies behind its place and inside the block, so that fewer bytes are left at each turn.
use Rattle.std.proofs.Common.{length, arith, subst, sym, ap, ◌∙◌, Ok}
use Rattle.terms.specs.Meaning.{format_of}
use Rattle.pieces.proofs.PiecesLaws.{further, piece_further}
use Rattle.block_words.proofs.block.first_wrong.Goals as goal

pub loop-piece-smaller : goal.loop-piece-smaller
loop-piece-smaller c =
    let a = c.args in
    let at = c.loop-piece.at.at in
    let on = subst (further at (length a.b.now)) (sym c.piece.ensures ∙ c.in-Ok-Some.is ∙ ap Ok c.in-Ok-Some.field-0-is) (piece_further (format_of a.form.format) a.form.n a.b.now at) in
    omega (arith, on)
