-- The reading of ours tells 11 or 12; else theirs is judged by the records from R on.
use mathlib.Core.Path.{ap, ◌∙◌}
use Rattle.std.specs.Prelude.{Err}
use Rattle.verdicts.specs.Promise.{refused_with}
use Rattle.verdicts.proofs.SpanLaws.{no_reel, bad, ours_spanned, of_spanned}
use Rattle.verdicts.proofs.in_spans.Goals as goal

pub judge_spans-requires : goal.judge_spans-requires
judge_spans-requires c =
    let p = c.requires in
    (ours_spanned c.args.m c.args.first c.args.theirs.now c.read_spanned.ensures p.0 _ c.in-Ok.is c.min-passed.ensures, p.1)

pub returns-in-Ok : goal.returns-in-Ok
returns-in-Ok c = of_spanned c.args.m c.args.first c.args.theirs.now c.read_spanned.ensures c.requires.0 _ c.in-Ok.is c.min-passed.ensures _ c.judge_spans.ensures

pub returns-in-Err-NotReel : goal.returns-in-Err-NotReel
returns-in-Err-NotReel c =
    let w = c.in-Err-NotReel in
    no_reel c.args.m c.args.first c.args.theirs.now c.read_spanned.ensures (w.is ∙ ap Err w.field-0-is) _ c.refused.ensures

pub returns-in-Err-BadBlock : goal.returns-in-Err-BadBlock
returns-in-Err-BadBlock c =
    let w = c.in-Err-BadBlock in
    bad c.args.m c.args.first c.args.theirs.now c.read_spanned.ensures _ (w.is ∙ ap Err w.field-0-is) _
    (c.refused-in-Err-BadBlock.ensures ∙ ap (λ n. refused_with 12 n 0) w.block-is)
