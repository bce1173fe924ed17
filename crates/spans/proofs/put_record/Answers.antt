-- Each turn is one cut, which takes a byte or more, and puts it behind those before.
use mathlib.Core.Path.{refl, ◌∙◌}
use native.Mathlib.Omega.{arith}
use Rattle.cuts.proofs.CutLaws.{next_is, going_start, going_next, going_end, fair_next}
use Rattle.spans.proofs.PutLaws.{puts_start, puts_streaming, puts_next, puts_end, next_fits}
use Rattle.spans.proofs.put_record.Goals as goal

pub loop-rest-init : goal.loop-rest-init
loop-rest-init c =
    (going_start c.requires.record_fits.small, c.requires.record_fits.fair, refl, λ y. puts_start _ _ y _ _)

pub cut-part-requires : goal.cut-part-requires
cut-part-requires c = c.loop-rest.invariant.0.small

pub put_next-at-requires : goal.put_next-at-requires
put_next-at-requires c =
    let i = c.loop-rest.invariant in
    let n = next_is i.0.small c.cut-part.ensures in
    record { streaming = puts_streaming _ _ c.requires.streaming _ _ (i.3 c.requires.streaming) _ n.most; segment_fits = next_fits c.requires.record_fits i.0 i.1 c.loop-rest-test.true c.cut-part.ensures _ i.2 }

pub overflow_sub-rest : goal.overflow_sub-rest
overflow_sub-rest c = (next_is c.loop-rest.invariant.0.small c.cut-part.ensures).most

pub loop-rest-smaller : goal.loop-rest-smaller
loop-rest-smaller c =
    let n = next_is c.loop-rest.invariant.0.small c.cut-part.ensures in
    omega (arith, n.some c.loop-rest-test.true, n.most)

pub loop-rest-preserved : goal.loop-rest-preserved
loop-rest-preserved c =
    let i = c.loop-rest.invariant in
    let l = c.loop-rest-test.true in
    let e = c.cut-part.ensures in
    let n = next_is i.0.small e in (
      going_next i.0 l e,
      (fair_next c.requires.record_fits.small.low i.1 _ e).0,
      c.put_next-at.auto.out ∙ i.2,
      λ y. puts_next _ _ y _ _ (i.3 y) l e (n.some l) n.most _ refl c.put_next-at.ensures,
    )

pub shape_of-out : goal.shape_of-out
shape_of-out c = c.loop-rest.invariant.2

pub returns : goal.returns
returns c =
    let i = c.loop-rest.invariant in
    record { is = going_end i.0 c.loop-rest-test.false; written = λ y. puts_end _ _ y _ _ (i.3 y) c.loop-rest-test.false }
