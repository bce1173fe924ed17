-- The walk holds the number of a block and how many records were counted before it; each way out is a law of the reading.
use mathlib.Core.Path.{sym, ap, ◌∙◌, subst}
use Prim.Native.Nat.{◌≤◌}
use native.Mathlib.Omega.{arith}
use lib.ListN.{length}
use Rattle.std.specs.Prelude.{Some, None, Err}
use Rattle.std.proofs.lemmas.Result.{err_from_is_err_and}
use Rattle.pieces.proofs.PiecesLaws.{or_taken, or_missed}
use Rattle.reels.specs.Records.{BlockSays, ReadAs}
use Rattle.reels.proofs.ReelReads.{reading_start, part_full, reading_step, reading_bad, reading_end, reading_most}
use Rattle.reels.proofs.read_blocks.Goals as goal

pub loop-i-init : goal.loop-i-init
loop-i-init c = reading_start _ _ _ c.requires

pub rule-requires : goal.rule-requires
rule-requires c = subst (λ b. 1 ≤ length b) (sym c.block-b.ensures) (part_full c.loop-i.invariant c.loop-i-test.true)

pub overflow_add-records : goal.overflow_add-records
overflow_add-records c =
    let form = c.args.form in
    let k = c.in_ok-records.field-0 in
    let judged = subst (λ b. BlockSays form b (Some k)) c.block-b.ensures (subst (BlockSays form c.block-b.result.now) (or_taken _ _ _ c.in_ok-records.ensures.value) c.rule.ensures) in
    let w = reading_step c.loop-i.invariant c.loop-i-test.true _ judged in
    omega (arith, reading_most w)

pub loop-i-preserved : goal.loop-i-preserved
loop-i-preserved c =
    let form = c.args.form in
    let k = c.in_ok-records.field-0 in
    let judged = subst (λ b. BlockSays form b (Some k)) c.block-b.ensures (subst (BlockSays form c.block-b.result.now) (or_taken _ _ _ c.in_ok-records.ensures.value) c.rule.ensures) in
    reading_step c.loop-i.invariant c.loop-i-test.true _ judged

pub returns-in_err-records : goal.returns-in_err-records
returns-in_err-records c =
    let form = c.args.form in
    let m = or_missed _ _ _ c.in_err-records.ensures.value in
    let r = err_from_is_err_and c.from_residual.result c.from_residual.ensures.1 in
    let judged = subst (λ b. BlockSays form b None) c.block-b.ensures (subst (BlockSays form c.block-b.result.now) m.0 c.rule.ensures) in
    subst (ReadAs form c.args.reel.now) (sym (r.1 ∙ ap Err (r.2 ∙ m.1))) (reading_bad c.loop-i.invariant c.loop-i-test.true judged)

pub returns : goal.returns
returns c = reading_end c.loop-i.invariant c.loop-i-test.false
