-- The walk holds a place and how many pieces were counted before it; each way out is a law of the counting.
use mathlib.Core.Path.{◌≡◌, sym, ap, ◌∙◌, subst}
use native.Mathlib.Omega.{arith}
use Rattle.std.specs.Prelude.{Some, Ok}
use Rattle.pieces.specs.Pieces.{piece_read_of}
use Rattle.pieces.proofs.PiecesLaws.{read_ok, read_bad}
use Rattle.reels.specs.Records.{PiecesCounted}
use Rattle.reels.proofs.RecordsLaws.{counting_further, counting_step, counting_short, counting_bad, counting_end}
use Rattle.reels.proofs.counted.Goals as goal

pub returns-then-piece-least : goal.returns-then-piece-least
returns-then-piece-least c =
    let e = sym c.piece.ensures ∙ read_ok _ _ c.in_ok-piece.ensures.value ∙ ap Ok c.in-Some.is in
    counting_short c.loop-piece.invariant _ e (omega (arith, c.if-piece-least.true, c.least_data-least.ensures))

pub loop-piece-smaller : goal.loop-piece-smaller
loop-piece-smaller c =
    let e : piece_read_of c.args.form c.args.b.now c.loop-piece.at.at ≡ Ok (Some c.in-Some.piece) = sym c.piece.ensures ∙ read_ok _ _ c.in_ok-piece.ensures.value ∙ ap Ok c.in-Some.is in
    let g = counting_further c.loop-piece.invariant _ e in
    omega arith

pub loop-piece-preserved : goal.loop-piece-preserved
loop-piece-preserved c =
    let e = sym c.piece.ensures ∙ read_ok _ _ c.in_ok-piece.ensures.value ∙ ap Ok c.in-Some.is in
    counting_step c.loop-piece.invariant _ e (omega (arith, c.if-piece-least.false, c.least_data-least.ensures))

pub returns : goal.returns
returns c =
    let e = sym c.piece.ensures ∙ read_ok _ _ c.in_ok-piece.ensures.value ∙ ap Ok c.in_default.is in
    subst (PiecesCounted c.args.form c.args.b.now c.args.from.at) (sym c.then_some.ensures) (counting_end c.loop-piece.invariant e)

pub returns-in_err-piece : goal.returns-in_err-piece
returns-in_err-piece c =
    let e = sym c.piece.ensures ∙ read_bad _ c.in_err-piece.ensures.value in
    subst (PiecesCounted c.args.form c.args.b.now c.args.from.at) (sym c.from_residual.ensures) (counting_bad c.loop-piece.invariant e)
