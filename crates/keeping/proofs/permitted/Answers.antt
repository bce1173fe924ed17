-- The marks permit what the first k fields permit, and each field lets them permit what it does too.
use mathlib.Core.Path.{subst}
use mathlib.Core.List.{List}
use native.Mathlib.Omega.{arith}
use lib.ListN.{get_or}
use Rattle.rules.specs.Permitted.{permitted}
use Rattle.rules.specs.Lent.{zone_f}
use Rattle.rules.specs.Halves.{Field as RuleField}
use Rattle.sources.proofs.AllFields.{fields_all}
use Rattle.keeping.specs.Marks.{MarkSays}
use Rattle.keeping.proofs.FieldMarks.{says_none, says_more}
use Rattle.keeping.proofs.permitted.Goals as goal

pub loop-k-init : goal.loop-k-init
loop-k-init c = (c.requires.all_zero.0, λ h l. says_none c.args.fields.now _ h (c.requires.all_zero.1 h))

pub loop-k-preserved : goal.loop-k-preserved
loop-k-preserved c =
    let l = c.loop-k in (
      c.mark_field.ensures.0,
      λ h t. says_more c.args.fields.now l.k (omega (arith, c.loop-k-test.true)) _ c.field_at.ensures h _ _ (c.mark_field.ensures.1 h t) (l.invariant.1 h t),
    )

pub returns : goal.returns
returns c =
    let row = c.args.fields.now in
    let l = c.loop-k in (
      l.invariant.0,
      λ h t. subst (λ (fs : List RuleField). MarkSays (get_or l.marks h 0) (permitted zone_f fs h)) (fields_all row l.k c.loop-k-test.false) (l.invariant.1 h t),
    )
