-- `twins::why` meets its contract: the lost place 2n is that of the tail, and else the fields say what becomes of the lost half.
use mathlib.Core.Path.{ap, sym, ◌∙◌}
use Prim.Native.Nat.{ℕ, ◌*◌}
use native.Mathlib.Omega.{arith}
use Rattle.reasons.proofs.FairLaws.{fields_fair, fields_wide}
use Rattle.reasons.specs.Promise.{number_of}
use Rattle.twins.proofs.ShowLaws.{reason_tail, reason_half}
use Rattle.twins.proofs.why.Goals as goal

pub overflow_mul-record_length : goal.overflow_mul-record_length
overflow_mul-record_length c = record { fits = omega (arith, c.record_length.ensures, (fields_fair c.args.asked c.args.fields.now c.requires.plan_fair).n_high) }

pub returns-then-lost-record_length : goal.returns-then-lost-record_length
returns-then-lost-record_length c =
    reason_tail c.args.asked c.args.fields.now c.requires.plan_fair c.args.lost c.requires.lost_value (c.if-lost-record_length.true ∙ ap (λ (k : ℕ). 2 * k) c.record_length.ensures)

pub reason-requires : goal.reason-requires
reason-requires c = fields_wide c.args.asked c.args.fields.now c.requires.plan_fair

pub returns : goal.returns
returns c =
    let p = c.from-2.ensures in
    let q = c.from.ensures in
    p ∙ q ∙ reason_half c.args.asked c.args.fields.now c.requires.plan_fair c.args.lost c.requires.lost_value
    (λ e. c.if-lost-record_length.false (e ∙ ap (λ (k : ℕ). 2 * k) (sym c.record_length.ensures))) (number_of c.reason.result) c.reason.ensures
