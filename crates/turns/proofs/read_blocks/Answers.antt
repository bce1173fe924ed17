-- The walk holds the number of a block and the counts before it; each way out is a law of the reading.
use mathlib.Core.Path.{sym, ap, ◌∙◌, subst}
use Prim.Native.Nat.{◌+◌, ◌≤◌}
use lib.ListN.{length}
use Rattle.std.specs.Prelude.{Some, None, Err}
use Rattle.std.proofs.lemmas.Result.{err_from_is_err_and}
use Rattle.pieces.proofs.PiecesLaws.{or_taken, or_missed}
use Rattle.turns.specs.Turns.{Ruled}
use Rattle.turns.specs.Promise.{SpannedAs}
use Rattle.turns.proofs.ReadingLaws.{reading_start, reading_room, reading_step, reading_bad, reading_unfinished, reading_end}
use Rattle.turns.proofs.read_blocks.Goals as goal

pub loop-i-init : goal.loop-i-init
loop-i-init c = reading_start _ _ _ c.requires

pub rule-requires : goal.rule-requires
rule-requires c =
    let w = c.loop-i.invariant in
    (subst (λ b. c.loop-i.counts.records + length b ≤ 65536) (sym c.block-b.ensures) (reading_room w c.loop-i-test.true), w.low)

pub loop-i-preserved : goal.loop-i-preserved
loop-i-preserved c =
    let g = c.args.g in
    let before = c.loop-i.counts in
    let after = c.in_ok-counts.counts in
    let ruled = subst (λ b. Ruled g before b (Some after)) c.block-b.ensures (subst (Ruled g before c.block-b.result.now) (or_taken _ _ _ c.in_ok-counts.ensures.value) c.rule.ensures) in
    reading_step c.loop-i.invariant c.loop-i-test.true _ ruled

pub returns-in_err-counts : goal.returns-in_err-counts
returns-in_err-counts c =
    let g = c.args.g in
    let before = c.loop-i.counts in
    let m = or_missed _ _ _ c.in_err-counts.ensures.value in
    let r = err_from_is_err_and c.from_residual.result c.from_residual.ensures.1 in
    let ruled = subst (λ b. Ruled g before b None) c.block-b.ensures (subst (Ruled g before c.block-b.result.now) m.0 c.rule.ensures) in
    subst (SpannedAs g c.args.reel.now) (sym (r.1 ∙ ap Err (r.2 ∙ m.1))) (reading_bad c.loop-i.invariant c.loop-i-test.true ruled)

pub returns-then-counts-ne0 : goal.returns-then-counts-ne0
returns-then-counts-ne0 c = reading_unfinished c.loop-i.invariant c.loop-i-test.false c.if-counts-ne0.true

pub returns : goal.returns
returns c = reading_end c.loop-i.invariant c.loop-i-test.false c.if-counts-ne0.false
