-- The header, the blocks, and what is asked of their records.
use mathlib.Core.Path.{ap, ◌∙◌}
use Rattle.std.specs.Prelude.{Err}
use Rattle.outcomes.specs.Promise.{refused_run}
use Rattle.checks.proofs.RunLaws.{ends_no_reel, ends_bad, read_by, ends_read}
use Rattle.checks.proofs.check.Goals as goal

pub checked-requires : goal.checked-requires
checked-requires c = read_by c.form_of.ensures c.read_reel.ensures _ c.in-Ok.is c.requires

pub returns-in-Ok : goal.returns-in-Ok
returns-in-Ok c = ends_read c.form_of.ensures c.read_reel.ensures _ c.in-Ok.is _ c.checked.ensures

pub returns-in-Err-NotReel : goal.returns-in-Err-NotReel
returns-in-Err-NotReel c = ends_no_reel c.form_of.ensures c.read_reel.ensures (c.in-Err-NotReel.is ∙ ap Err c.in-Err-NotReel.field-0-is) _ c.refused.ensures

pub returns-in-Err-BadBlock : goal.returns-in-Err-BadBlock
returns-in-Err-BadBlock c =
    let w = c.in-Err-BadBlock in
    ends_bad c.form_of.ensures c.read_reel.ensures _ (w.is ∙ ap Err w.field-0-is) _ (c.refused-in-Err-BadBlock.ensures ∙ ap (λ n. refused_run 12 n 0) w.block-is)
