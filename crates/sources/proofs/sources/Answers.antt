-- No field leaves zeros, each field covers what stood before it, and after the last all have.
use mathlib.Core.Path.{subst}
use mathlib.Core.List.{List}
use Prim.Native.Nat.{◌*◌}
use native.Mathlib.Omega.{arith}
use Rattle.rules.specs.Lent.{zone_f}
use Rattle.rules.specs.Halves.{Field as RuleField, sources}
use Rattle.rows.specs.Kept.{fields_in}
use Rattle.sources.specs.Promise.{Stand}
use Rattle.sources.proofs.AllFields.{fields_all, stand_none, stand_more}
use Rattle.sources.proofs.sources.Goals as goal

pub loop-i-init : goal.loop-i-init
loop-i-init c = (c.requires.all_zero.0, λ n m fair. stand_none n m (fields_in c.args.fields.now) _ c.requires.all_zero.1)

pub loop-i-preserved : goal.loop-i-preserved
loop-i-preserved c =
    let covers = c.field_sources.ensures in
    (covers.long, λ n m fair. stand_more c.args.fields.now c.loop-i.i (omega arith) _ c.field_at.ensures n m fair _ _ covers.each (c.loop-i.invariant.1 n m fair))

pub returns : goal.returns
returns c =
    (c.loop-i.invariant.0, λ n m fair. subst (λ (fs : List RuleField). Stand c.loop-i.out (sources zone_f m fs (2 * n))) (fields_all c.args.fields.now c.loop-i.i c.loop-i-test.false) (c.loop-i.invariant.1 n m fair))
