-- At the end there is none; else the piece behind a word of code 3 at most.
use Rattle.pieces.proofs.PiecesLaws.{worded_end}
use Rattle.pieces.proofs.segment.Goals as goal

pub returns-then-c-b : goal.returns-then-c-b
returns-then-c-b c = worded_end _ _ _ c.if-c-b.true
