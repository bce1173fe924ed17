-- The fields of an accepted plan lie inside their records, of which each has at most 4,096 bytes.
use native.Mathlib.Omega.{arith}
use Rattle.reasons.proofs.FairLaws.{fields_fair, fields_wide}
use Rattle.plan_deck.proofs.table.print.Goals as goal

pub tail-requires : goal.tail-requires
tail-requires c =
    (fields_fair c.args.asked c.args.fields.now c.requires).n_high

pub all_written-requires : goal.all_written-requires
all_written-requires c = record { row_inside = fields_wide c.args.asked c.args.fields.now c.requires; width_bound = omega (arith, c.record_length.ensures, (fields_fair c.args.asked c.args.fields.now c.requires).m_high) }
