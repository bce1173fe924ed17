-- A segment lies behind its place and inside the block, so that fewer bytes are left at each turn.
use Rattle.std.proofs.Common.{length, arith, subst, sym, ap, ◌∙◌, Ok}
use Rattle.pieces.proofs.PiecesLaws.{further, worded_further}
use Rattle.block_words.proofs.segment.first_wrong.Goals as goal

pub loop-segment-smaller : goal.loop-segment-smaller
loop-segment-smaller c =
    let a = c.args in
    let at = c.loop-segment.at.at in
    let on = subst (further at (length a.b.now)) (sym c.segment.ensures ∙ c.in-Ok-Some.is ∙ ap Ok c.in-Ok-Some.field-0-is) (worded_further 3 a.b.now at) in
    omega (arith, on)
