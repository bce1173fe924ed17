-- The mode says whether fields are selected.
use mathlib.Core.Path.{refl, sym, ◌∙◌}
use Rattle.writers.proofs.RecordLaws.{copy_room, record_room, data_copied, data_selected}
use Rattle.writers.proofs.put_data.Goals as goal

pub put_record-requires : goal.put_record-requires
put_record-requires c =
    let told = sym c.selects.ensures ∙ c.if-selects.true in record { fielded = c.requires.writable.fielded; n_in_bounds = c.requires.writable.least told; n_in_bounds_2 = record_room c.args.task c.args.fields.now c.args.record.now refl told _ c.requires.record_in_bounds; covers = c.requires.covers; record_len_bound = c.requires.writable.long }

pub returns-then-selects : goal.returns-then-selects
returns-then-selects c =
    data_selected c.args.task c.args.fields.now c.args.record.now _ _ refl (sym c.selects.ensures ∙ c.if-selects.true) c.put_record.ensures

pub copy-requires : goal.copy-requires
copy-requires c =
    (c.requires.writable.long, copy_room c.args.task c.args.fields.now c.args.record.now refl (sym c.selects.ensures ∙ c.if-selects.false) _ c.requires.record_in_bounds)

pub returns : goal.returns
returns c =
    data_copied c.args.task c.args.fields.now c.args.record.now _ _ refl (sym c.selects.ensures ∙ c.if-selects.false) c.copy.ensures
