-- `twins::show` meets its contract: where both records fit the output they are written from the lowest values of all halves, and else nothing is.
use mathlib.Core.Path.{sym, subst}
use Prim.Native.Nat.{ℕ, ◌*◌}
use native.Mathlib.Omega.{arith}
use lib.ListN.{length-replicate}
use Rattle.rules.specs.Lent.{zone_f}
use Rattle.terms.specs.Meaning.{plan_in}
use Rattle.rows.specs.Kept.{fields_in}
use Rattle.keeping.proofs.Weighs.{zeros}
use Rattle.twin_records.specs.Promise.{Values}
use Rattle.twins.specs.Promise.{ShownInto}
use Rattle.twins.specs.declared.Twins.{Twins}
use Rattle.reasons.proofs.FairLaws.{fields_fair, fields_wide}
use Rattle.twins.proofs.ShowLaws.{values_small, shown_full, shown_both}
use Rattle.twins.proofs.show.Goals as goal

pub needed-length-requires : goal.needed-length-requires
needed-length-requires c =
    omega (arith, c.record_length-n.ensures, (fields_fair c.args.asked c.args.fields.now c.requires.plan_fair).n_high)

pub returns-then-out-length : goal.returns-then-out-length
returns-then-out-length c =
    let a = c.args in
    subst (λ (t : Twins). ShownInto (plan_in zone_f a.asked (fields_in a.fields.now)) a.out.now t a.out.now) (sym c.refused.ensures)
    (shown_full a.asked a.fields.now c.requires.plan_fair a.lost c.requires.loses a.out.now _ _ c.record_length-n.ensures c.needed-length.ensures c.if-out-length.true)

pub lowest_halves-requires : goal.lowest_halves-requires
lowest_halves-requires c = record { row_inside = fields_wide c.args.asked c.args.fields.now c.requires.plan_fair; all_zero = (length-replicate {A = ℕ} 8192 0, zeros 8192) }

pub put_twins-requires : goal.put_twins-requires
put_twins-requires c =
    let a = c.args in
    let e = c.record_length-n.ensures in
    let v = c.lowest_halves in record {
      n_bound = (
        omega (arith, e, (fields_fair a.asked a.fields.now c.requires.plan_fair).n_high),
        omega (arith, c.needed-length.ensures, c.if-out-length.false),
      );
      values = subst (λ (k : ℕ). Values v.new.values a.lost (2 * k)) (sym e)
          (values_small a.asked a.fields.now c.requires.plan_fair a.lost c.requires.loses v.new.values v.ensures);
    }

pub returns : goal.returns
returns c =
    let a = c.args in
    let n = c.record_length-n in
    let k = c.needed-length in
    let v = c.lowest_halves in
    shown_both a.asked a.fields.now c.requires.plan_fair a.lost c.requires.loses a.out.now _ v.new.values _ _ _ v.ensures n.ensures k.ensures
    c.if-out-length.false c.why.ensures c.put_twins.ensures
