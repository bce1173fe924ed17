-- A piece lies behind its place and inside the block, be it a record or a segment.
use Rattle.pieces.proofs.PiecesLaws.{piece_further, worded_further}
use Rattle.gathers.proofs.piece_at.Goals as goal

pub returns-in-FF : goal.returns-in-FF
returns-in-FF c = rw c.piece.ensures (piece_further _ _ _ _)

pub returns-in-FS : goal.returns-in-FS
returns-in-FS c = rw c.segment.ensures (worded_further 3 _ _)
