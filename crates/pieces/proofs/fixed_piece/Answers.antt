-- A piece of n bytes, where n is not 0 and so many are left.
use native.Mathlib.Omega.{arith}
use Rattle.pieces.proofs.PiecesLaws.{fixed_zero, fixed_over, fixed_good}
use Rattle.pieces.proofs.fixed_piece.Goals as goal
use Rattle.pieces.proofs.fixed_piece.Goals.{then-n-eq0-via-then-n-eq0, then-n-eq0-via-else-n-eq0+then-n-end}

pub returns-then-n-eq0 : goal.returns-then-n-eq0
returns-then-n-eq0 c =
    elim c.then-n-eq0.branch
    [ then-n-eq0-via-then-n-eq0 w ↦ fixed_zero _ _ _ w.if-n-eq0.true | then-n-eq0-via-else-n-eq0+then-n-end w ↦ fixed_over _ _ _ (omega arith) ]

pub returns : goal.returns
returns c = fixed_good _ _ _ c.if-n-eq0.false (omega arith)
