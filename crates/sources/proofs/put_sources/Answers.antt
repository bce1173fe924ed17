-- Each turn puts the source of a half in its place, and no other is touched.
use mathlib.Core.Path.{refl, ◌∙◌}
use native.Mathlib.Omega.{arith}
use Rattle.sources.proofs.FieldSources.{put_below, put_inside, put_above}
use Rattle.sources.proofs.Walk.{upto_none, upto_more, upto_all}
use Rattle.sources.proofs.put_sources.Goals as goal

pub loop-j-init : goal.loop-j-init
loop-j-init g c = upto_none _ _ _ _ (λ k a l. put_below _ _ _ c.requires.field_inside k a (omega arith))

pub loop-j-preserved : goal.loop-j-preserved
loop-j-preserved g c =
    let source = c.requires.answers c.loop-j.j c.source.result c.loop-j-test.true c.source.ensures in
    upto_more _ _ _ _ _ _ _ (omega arith) (omega (arith, c.requires.field_inside)) (put_inside _ _ _ c.requires.field_inside _ _ _ _ refl c.loop-j-test.true source) c.loop-j.invariant

pub returns : goal.returns
returns g c =
    record { long = c.loop-j.invariant.len ∙ c.requires.out_len; each = λ h l. upto_all _ _ _ _ _ (λ k a e. put_above _ _ _ c.requires.field_inside k a (omega arith)) c.loop-j.invariant h (rw c.requires.out_len l) }
