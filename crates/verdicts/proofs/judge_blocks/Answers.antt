-- The reading of theirs tells 17 or 18; else both reels are read, and the pairs tell the number.
use mathlib.Core.Path.{ap, ◌∙◌}
use Rattle.std.specs.Prelude.{Err}
use Rattle.verdicts.specs.Promise.{refused_with}
use Rattle.verdicts.proofs.BlockLaws.{ends_no_reel, ends_bad, both_read, ends_read}
use Rattle.verdicts.proofs.judge_blocks.Goals as goal

pub first_apart-requires : goal.first_apart-requires
first_apart-requires c = both_read c.args.ours.now c.form_under.ensures c.read_reel.ensures _ c.in-Ok.is c.requires

pub returns-in-Ok : goal.returns-in-Ok
returns-in-Ok c = ends_read c.args.ours.now c.form_under.ensures c.read_reel.ensures _ c.in-Ok.is _ c.first_apart.ensures _ c.told.ensures

pub returns-in-Err-NotReel : goal.returns-in-Err-NotReel
returns-in-Err-NotReel c =
    let w = c.in-Err-NotReel in
    ends_no_reel c.args.ours.now c.form_under.ensures c.read_reel.ensures (w.is ∙ ap Err w.field-0-is) _ c.refused.ensures

pub returns-in-Err-BadBlock : goal.returns-in-Err-BadBlock
returns-in-Err-BadBlock c =
    let w = c.in-Err-BadBlock in
    ends_bad c.args.ours.now c.form_under.ensures c.read_reel.ensures _ (w.is ∙ ap Err w.field-0-is) _
    (c.refused-in-Err-BadBlock.ensures ∙ ap (λ n. refused_with 18 n 0) w.block-is)
