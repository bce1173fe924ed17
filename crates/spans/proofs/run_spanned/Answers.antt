-- The header, the blocks, and then the records from R on.
use mathlib.Core.Path.{ap, ◌∙◌}
use native.Mathlib.Omega.{arith}
use Rattle.std.specs.Prelude.{Err}
use Rattle.rules.proofs.Halves.HalfBytes.{all_bytes}
use Rattle.outcomes.specs.Promise.{refused_run}
use Rattle.spans.proofs.RunLaws.{ends_no_reel, ends_bad, input_most, ends_copied, taking, ends_filled}
use Rattle.spans.proofs.run_spanned.Goals as goal

pub copied-requires : goal.copied-requires
copied-requires c = input_most c.args.copies c.args.g c.args.m c.args.first c.args.reel.now c.args.out.now c.read_spanned.ensures _ c.in-Ok.is

pub returns-then-copies : goal.returns-then-copies
returns-then-copies c =
    let z =
    ends_copied c.args.copies c.args.g c.args.m c.args.first c.args.reel.now c.args.out.now c.read_spanned.ensures _ c.in-Ok.is c.min-passed.ensures c.if-copies.true
    (all_bytes c.args.reel.now (λ i. omega (arith, c.type_inv.reel i))) c.copied.ensures in
    record { answer = z.0; output = z.1 }

pub filled-requires : goal.filled-requires
filled-requires c =
    (taking c.args.copies c.args.g c.args.m c.args.first c.args.reel.now c.args.out.now c.read_spanned.ensures _ c.in-Ok.is c.min-passed.ensures c.requires.2, c.requires.0, c.requires.1)

pub returns-else-copies : goal.returns-else-copies
returns-else-copies c =
    let z =
    ends_filled c.args.copies c.args.g c.args.m c.args.first c.args.reel.now c.args.out.now c.read_spanned.ensures _ c.in-Ok.is c.min-passed.ensures c.if-copies.false c.requires.2 _ _ c.filled.ensures in
    record { answer = z.0; output = z.1 }

pub returns-in-Err-NotReel : goal.returns-in-Err-NotReel
returns-in-Err-NotReel c =
    let w = c.in-Err-NotReel in
    let z = ends_no_reel c.args.copies c.args.g c.args.m c.args.first c.args.reel.now c.args.out.now c.read_spanned.ensures (w.is ∙ ap Err w.field-0-is) c.refused.ensures in
    record { answer = z.0; output = z.1 }

pub returns-in-Err-BadBlock : goal.returns-in-Err-BadBlock
returns-in-Err-BadBlock c =
    let w = c.in-Err-BadBlock in
    let z =
    ends_bad c.args.copies c.args.g c.args.m c.args.first c.args.reel.now c.args.out.now c.read_spanned.ensures _ (w.is ∙ ap Err w.field-0-is)
    (c.refused-in-Err-BadBlock.ensures ∙ ap (λ n. refused_run 12 n 0) w.block-is) in
    record { answer = z.0; output = z.1 }
