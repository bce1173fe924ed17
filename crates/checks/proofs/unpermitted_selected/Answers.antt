-- Copies permit every record of bytes; else the records are looked at.
use mathlib.Core.Path.{subst}
use native.Mathlib.Omega.{arith}
use Rattle.rules.proofs.Halves.HalfBytes.{all_bytes}
use Rattle.values.specs.Promise.{FieldsAsk}
use Rattle.checks.proofs.RunLaws.{none_asked}
use Rattle.checks.proofs.unpermitted_selected.Goals as goal

pub returns-then-not-asks : goal.returns-then-not-asks
returns-then-not-asks c =
    none_asked c.args.task c.args.fields.now c.args.reel.now (all_bytes c.args.reel.now (λ i. omega (arith, c.shared_slice_known-2-1.given i)))
    (subst (FieldsAsk c.args.fields.now) c.if-not-asks.true c.asks.ensures)
