-- What a run with no room is refused with, up to 15, is at fault with ours.
use Rattle.verdicts.proofs.BlockLaws.{ours_at_fault, ours_fair, of_ours}
use Rattle.verdicts.proofs.in_blocks.Goals as goal

pub returns-then-ran-ne15 : goal.returns-then-ran-ne15
returns-then-ran-ne15 c =
    ours_at_fault c.check-ran.ensures c.args.theirs.now c.if-ran-ne15.true _ c.refused.ensures

pub judge_blocks-requires : goal.judge_blocks-requires
judge_blocks-requires c =
    ours_fair c.check-ran.ensures c.if-ran-ne15.false c.requires

pub returns : goal.returns
returns c =
    of_ours c.check-ran.ensures c.if-ran-ne15.false c.args.theirs.now _ c.judge_blocks.ensures
