-- The fields that are left make of the reason so far what all fields make of 1.
use mathlib.Core.Path.{ap, ◌∙◌, sym, subst}
use Prim.Native.Nat.{◌+◌, ◌*◌, ◌≤◌}
use native.Mathlib.Omega.{arith}
use lib.ListN.{length}
use Rattle.rules.specs.Lent.{zone_f}
use Rattle.sources.specs.Promise.{FieldInside}
use Rattle.reasons.specs.Promise.{number_of}
use Rattle.reasons.proofs.ReasonLaws.{room, reason_read, reason_unread, reason_all}
use Rattle.reasons.proofs.reason.Goals as goal
use Rattle.reasons.proofs.reason.Goals.{else-reads, then-reads}

pub loop-k-preserved : goal.loop-k-preserved
loop-k-preserved c =
    let row = c.args.fields.now in
    let here : 5 * c.loop-k.k + 5 ≤ length row = omega (arith, c.loop-k-test.true) in
    λ n m fair.
    let f = c.field_at-f.result in
    let o = c.loop-k.invariant n m fair in
    elim c.if-reads.branch [
      | then-reads w ↦ reason_read _ (2 * n) _ row _ here f c.field_at-f.ensures _ _ _ o _ c.reads.ensures w.if-reads.true
          (ap number_of w.reason-is ∙ w.reason_of-reason.ensures (2 * n) (room n m f (subst (FieldInside n m) (sym c.field_at-f.ensures) (fair.each _ here))))
      | else-reads w ↦ reason_unread _ (2 * n) _ row _ here f c.field_at-f.ensures _ _ _ o _ c.reads.ensures w.if-reads.false (ap number_of w.reason-is)
    ]

pub returns : goal.returns
returns c =
    λ n m fair.
    let l = c.loop-k in
    sym (reason_all zone_f (2 * n) _ c.args.fields.now l.k _ (omega (arith, c.loop-k-test.false))) ∙ l.invariant n m fair
