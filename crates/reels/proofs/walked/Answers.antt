-- By the block's start, and the count of its pieces.
use mathlib.Core.Path.{sym, subst}
use Rattle.reels.specs.Records.{BlockSays}
use Rattle.reels.proofs.RecordsLaws.{judged_counted, judged_no_start}
use Rattle.reels.proofs.walked.Goals as goal

pub returns-in_err-from : goal.returns-in_err-from
returns-in_err-from c =
    let a = c.args in
    subst (BlockSays a.form a.b.now) (sym c.from_residual.ensures) (judged_no_start _ _ c.requires.0 c.requires.1 (sym c.in_err-from.ensures))

pub returns : goal.returns
returns c = judged_counted _ _ c.requires.0 _ _ c.requires.1 (sym c.in_ok-from.ensures) c.counted.ensures
