-- `lines::operand_end` meets its contract: the operand is what stands before the first blank.
use mathlib.Core.Path.{ap, ◌∙◌}
use Rattle.lines.proofs.MeaningLaws.{before, lent_rest, operand_ends}
use Rattle.lines.proofs.operand_end.Goals as goal

pub returns : goal.returns
returns c =
    let l = c.args.line.now in
    let s = c.args.start in
    rw (c.bytes_before.ensures.value ∙ ap (before 0x20) (lent_rest l s)) (operand_ends l s c.requires)
