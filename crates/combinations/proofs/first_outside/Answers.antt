-- The fields one after the other: while none was outside, the first one outside among those left is the first of all.
use mathlib.Core.Path.{ap, sym, ◌∙◌}
use native.Mathlib.Omega.{arith}
use Rattle.rules.specs.Plan.{inside}
use Rattle.terms.specs.Meaning.{field_of}
use Rattle.terms.specs.declared.Field.{Field}
use Rattle.combinations.proofs.OutsideLaws.{seek_more, seek_found, seek_none}
use Rattle.combinations.proofs.first_outside.Goals as goal

pub returns-then-not-lies_inside : goal.returns-then-not-lies_inside
returns-then-not-lies_inside c =
    seek_found c.args.fields.now c.args.a c.args.b c.loop-i.i c.loop-i.invariant (omega (arith, c.loop-i-test.true))
    (ap (λ (f : Field). inside c.args.a c.args.b (field_of f)) (sym c.field_at.ensures)
    ∙ sym c.lies_inside.ensures
    ∙ c.if-not-lies_inside.true)

pub loop-i-preserved : goal.loop-i-preserved
loop-i-preserved c =
    seek_more c.args.fields.now c.args.a c.args.b c.loop-i.i c.loop-i.invariant (omega (arith, c.loop-i-test.true))
    (ap (λ (f : Field). inside c.args.a c.args.b (field_of f)) (sym c.field_at.ensures)
    ∙ sym c.lies_inside.ensures
    ∙ c.if-not-lies_inside.false)

pub returns : goal.returns
returns c =
    seek_none c.args.fields.now c.args.a c.args.b c.loop-i.i c.loop-i.invariant c.loop-i-test.false
