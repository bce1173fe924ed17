-- A piece lies behind its place and inside the block, so that fewer bytes are left at each turn.
use Rattle.std.proofs.Common.{length, arith, subst, ap, ◌∙◌, Ok}
use Rattle.pieces.proofs.PiecesLaws.{further}
use Rattle.answers.proofs.reel.in_block.Goals as goal

pub loop-piece-smaller : goal.loop-piece-smaller
loop-piece-smaller g c =
    let lies = subst (further c.loop-piece.at.at (length c.args.block.now)) (c.in-Ok-Some.is ∙ ap Ok c.in-Ok-Some.field-0-is) c.piece_at.ensures in
    omega (arith, lies)
