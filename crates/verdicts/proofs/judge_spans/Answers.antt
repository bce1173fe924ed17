-- The reading of theirs tells 17 or 18; else both reels are read, and the pairs tell the number.
use mathlib.Core.Path.{ap, ◌∙◌}
use Rattle.std.specs.Prelude.{Err}
use Rattle.verdicts.specs.Promise.{refused_with}
use Rattle.verdicts.proofs.SpanLaws.{ends_no_reel, ends_bad, both_spanned, ends_read}
use Rattle.verdicts.proofs.judge_spans.Goals as goal

pub first_apart-requires : goal.first_apart-requires
first_apart-requires c =
    let a = c.args in
    both_spanned a.ours.now a.passed a.count c.read_spanned.ensures c.requires.1 _ c.in-Ok.is c.requires.0

pub returns-in-Ok : goal.returns-in-Ok
returns-in-Ok c =
    let a = c.args in
    ends_read a.ours.now a.passed a.count c.read_spanned.ensures c.requires.1 _ c.in-Ok.is _ c.first_apart.ensures _ c.told.ensures

pub returns-in-Err-NotReel : goal.returns-in-Err-NotReel
returns-in-Err-NotReel c =
    let a = c.args in
    let w = c.in-Err-NotReel in
    ends_no_reel a.ours.now a.passed a.count c.read_spanned.ensures (w.is ∙ ap Err w.field-0-is) _ c.refused.ensures

pub returns-in-Err-BadBlock : goal.returns-in-Err-BadBlock
returns-in-Err-BadBlock c =
    let a = c.args in
    let w = c.in-Err-BadBlock in
    ends_bad a.ours.now a.passed a.count c.read_spanned.ensures _ (w.is ∙ ap Err w.field-0-is) _
    (c.refused-in-Err-BadBlock.ensures ∙ ap (λ n. refused_with 18 n 0) w.bad-is)
