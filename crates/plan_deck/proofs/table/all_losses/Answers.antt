-- The fields of an accepted plan lie inside their records, of which the input's has at most 4,096 bytes.
use native.Mathlib.Omega.{arith}
use Rattle.reasons.proofs.FairLaws.{fields_fair, fields_wide}
use Rattle.plan_deck.proofs.table.all_losses.Goals as goal

pub overflow_mul-many : goal.overflow_mul-many
overflow_mul-many c =
    record { fits = omega (arith, c.record_length-many.ensures, (fields_fair c.args.asked c.args.fields.now c.requires).n_high) }

pub lost_runs-requires : goal.lost_runs-requires
lost_runs-requires c = record {
  row_inside = fields_wide c.args.asked c.args.fields.now c.requires;
  many_bound = omega (arith, c.record_length-many.ensures, (fields_fair c.args.asked c.args.fields.now c.requires).n_high);
}
