-- The refusal of the deck, or too little room, or the entries of its fields.
use mathlib.Core.Path.{◌≡◌, ap, sym, ◌∙◌}
use Prim.Native.Nat.{◌*◌, ◌≤◌}
use native.Mathlib.Omega.{arith}
use lib.ListN.{length, take}
use lib.Seq.{length-take-le}
use Rattle.tables.specs.Promise.{not_filled}
use Rattle.tables.proofs.StoredLaws.{filled_refused, filled_full, few_fields, row_long, fields_fair, filled_whole}
use Rattle.tables.proofs.filled_by.Goals as goal

pub returns-then-answer-ne0 : goal.returns-then-answer-ne0
returns-then-answer-ne0 c =
    λ deck w. c.not_filled.ensures ∙ filled_refused c.args.room deck c.args.plan c.args.row.now w c.if-answer-ne0.true

pub returns-then-room-count : goal.returns-then-room-count
returns-then-room-count c =
    λ deck w. c.not_filled-then-room-count.ensures ∙ ap not_filled c.refused.ensures
    ∙ filled_full c.args.room deck c.args.plan c.args.row.now w c.if-answer-ne0.false c.if-room-count.true

-- the numbers of its fields, at most 320, stand in the row
pub overflow_mul-end : goal.overflow_mul-end
overflow_mul-end c =
    let few : c.args.plan.answer.refusal ≡ 0 → 5 * c.args.plan.answer.fields ≤ 320 = λ z. few_fields c.args.room c.requires.deck c.args.plan c.args.row.now c.requires.plans z in
    record { fits = omega (arith, few c.if-answer-ne0.false) }

pub slice_bounds-entries-end : goal.slice_bounds-entries-end
slice_bounds-entries-end c =
    let few : c.args.plan.answer.refusal ≡ 0 → 5 * c.args.plan.answer.fields ≤ 320 = λ z. few_fields c.args.room c.requires.deck c.args.plan c.args.row.now c.requires.plans z in
    let front : c.args.plan.answer.refusal ≡ 0 → length (take (5 * c.args.plan.answer.fields) c.args.row.now) ≡ 5 * c.args.plan.answer.fields = λ z. length-take-le (5 * c.args.plan.answer.fields) c.args.row.now (omega (arith, few z, row_long c.args.room c.requires.deck c.args.plan c.args.row.now c.requires.plans z)) in
    sym (front c.if-answer-ne0.false)

pub entries-table-requires : goal.entries-table-requires
entries-table-requires c =
    let few : c.args.plan.answer.refusal ≡ 0 → 5 * c.args.plan.answer.fields ≤ 320 = λ z. few_fields c.args.room c.requires.deck c.args.plan c.args.row.now c.requires.plans z in
    let front : c.args.plan.answer.refusal ≡ 0 → length (take (5 * c.args.plan.answer.fields) c.args.row.now) ≡ 5 * c.args.plan.answer.fields = λ z. length-take-le (5 * c.args.plan.answer.fields) c.args.row.now (omega (arith, few z, row_long c.args.room c.requires.deck c.args.plan c.args.row.now c.requires.plans z)) in
    let z = c.if-answer-ne0.false in
    (fields_fair c.args.room c.requires.deck c.args.plan c.args.row.now c.requires.plans z, omega (arith, few z, front z))

pub returns : goal.returns
returns c =
    λ deck w. filled_whole c.args.room deck c.args.plan c.args.row.now w c.if-answer-ne0.false c.if-room-count.false _ c.entries-table.ensures
