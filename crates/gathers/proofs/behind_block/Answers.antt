-- A piece lies inside the block and the next place behind it, so that it can be lent and the loop ends.
use Rattle.std.proofs.Common.{length, arith, subst, ap, ◌∙◌, Ok}
use Rattle.pieces.proofs.PiecesLaws.{further}
use Rattle.gathers.proofs.behind_block.Goals as goal

pub loop-piece-smaller : goal.loop-piece-smaller
loop-piece-smaller c =
    let lies = subst (further c.loop-piece.at.at (length c.args.b.now)) (c.in-Ok-Some.is ∙ ap Ok c.in-Ok-Some.field-0-is) c.piece_at.ensures in
    omega (arith, lies)
