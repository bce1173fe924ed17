-- The seen marks are those of the output halves below g, and every half below h is kept. Where the output halves run out, no source is h.
use mathlib.Core.Path.{sym, ◌∙◌}
use native.Mathlib.Omega.{arith}
use borrow.Author.Count.{below_none}
use borrow.Author.Tests.{ltb-false}
use Rattle.sources.proofs.Seen.{seen_none}
use Rattle.keeping.proofs.Searches.{lost_nowhere_of, lost_here_of, place_found, place_none}
use Rattle.keeping.proofs.lost_half.Goals as goal

pub loop-h-init : goal.loop-h-init
loop-h-init c = (omega arith, seen_none _, below_none _)

pub returns-then-outputs-g : goal.returns-then-outputs-g
returns-then-outputs-g c =
    λ ss long stand.
    place_found _ _ c.loop-h-test.true _
    (lost_here_of c.args.marks.now c.args.sources.now _ _ ss long stand _ (omega arith) _ c.loop-h-test.true c.loop-h.invariant.2
    (ltb-false _ 2 (sym c.is_narrow.ensures ∙ c.if-is_narrow.false))
    _ _ c.if-outputs-g.true c.loop-seen.invariant.1 c.loop-seen-test.true)

pub returns-after-loop-h : goal.returns-after-loop-h
returns-after-loop-h c =
    λ ss long stand.
    place_none _ _ (lost_nowhere_of c.args.marks.now c.args.sources.now _ _ ss long stand _ (omega arith) (λ j l. c.loop-h.invariant.2 j (omega (arith, c.loop-h-test.false))))
