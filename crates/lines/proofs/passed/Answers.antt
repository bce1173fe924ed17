-- `lines::passed` meets its contract: a block in which no line ends is passed, and the bytes behind it are left.
use mathlib.Core.Path.{sym, ap, ◌∙◌}
use native.Mathlib.Omega.{arith}
use Rattle.std.specs.Slice.Iter.{chunks_exact_rest, chunks_exact_size}
use Rattle.rules.proofs.Deck.LineLaws.{all_slice_none}
use Rattle.lines.proofs.MeaningLaws.{lent_rest, passed_block}
use Rattle.lines.proofs.passed.Goals as goal

pub loop-block-init : goal.loop-block-init
loop-block-init c =
    let d = c.args.deck.now in
    let made = c.chunks_exact-block-items.ensures in
    let same = c.into_iter-block-iterator.ensures.into_iter_gives in (
      ap chunks_exact_size same ∙ made.size,
      ap chunks_exact_rest same ∙ made.rest ∙ lent_rest d c.args.at,
      (omega arith, c.requires, all_slice_none d c.args.at),
    )

pub loop-block-preserved : goal.loop-block-preserved
loop-block-preserved c =
    let l = c.loop-block in
    let a = c.args in
    let s = c.in-Some.ensures.steps in
    let on = passed_block a.deck.now a.at l.end c.in-Some.block.now (chunks_exact_rest c.next.new.self) l.invariant.2 (sym l.invariant.1 ∙ s.1.0) (s.1.1 ∙ l.invariant.0)
    (sym c.each.ensures ∙ c.if-not-each.false) in
    (s.0 ∙ l.invariant.0, on.0, on.1)
