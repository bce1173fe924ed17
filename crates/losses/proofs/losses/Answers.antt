-- `losses::losses` meets its contract: where fields are selected the halves that are missing have given way to their reasons, and else nothing is lost.
use mathlib.Core.Path.{ap, sym, ◌∙◌}
use Prim.Native.Nat.{ℕ}
use lib.ListN.{length, length-replicate}
use Rattle.rules.proofs.Halves.ListedLaws.{length_listed}
use Rattle.rows.specs.Kept.{fields_in}
use Rattle.keeping.proofs.Weighs.{zeros}
use Rattle.losses.proofs.LossLaws.{fair_wide, fields_inside, marked, none_lost, losses_are}
use Rattle.losses.proofs.losses.Goals as goal

pub returns-then-not-selects : goal.returns-then-not-selects
returns-then-not-selects c =
    let a = c.args in
    none_lost a.asked (fields_in a.fields.now) (sym c.selects.ensures ∙ c.if-not-selects.true)

pub missing_halves-requires : goal.missing_halves-requires
missing_halves-requires c = record { row_inside = fields_inside c.args.asked c.args.fields.now c.requires _ _ c.record_length-n.ensures c.record_length.ensures; all_zero = (length-replicate {A = ℕ} 8192 0, zeros 8192) }

pub give_reasons-requires : goal.give_reasons-requires
give_reasons-requires c =
    let n = c.record_length-n in
    let m = c.record_length in record { row_inside = fair_wide c.args.fields.now n.result m.result (fields_inside c.args.asked c.args.fields.now c.requires _ _ n.ensures m.ensures); halves_len = ap length c.missing_halves.ensures ∙ length_listed (marked (fields_in c.args.fields.now) n.result m.result) 0 8192 }

pub returns : goal.returns
returns c =
    let a = c.args in
    losses_are a.asked (fields_in a.fields.now) (sym c.selects.ensures ∙ c.if-not-selects.false) _ _
    c.record_length-n.ensures c.record_length.ensures _ _
    c.missing_halves.ensures c.give_reasons.ensures
