-- A copy may have any input, and of what is packed or unpacked each byte is asked as its kind asks it.
use mathlib.Core.Path.{sym}
use borrow.Author.Rules.{rules}
use native.Mathlib.Omega.{arith}
use lib.ListN.{length}
use Rattle.rules.specs.Lent.{zone_f}
use Rattle.rules.proofs.Halves.HalfBytes.{all_bytes}
use Rattle.rules.proofs.Halves.FieldTests.{copy_permitted}
use Rattle.rows.proofs.ReadLaws.{kind_copy, kind_pack, kind_unpack}
use Rattle.values.proofs.CheckLaws.{packed_may, unpacked_may}
use Rattle.values.proofs.input_permitted.Goals as goal

pub returns-then-kind-eq0 : goal.returns-then-kind-eq0
returns-then-kind-eq0 c =
    λ m. rw (kind_copy c.args.kind c.if-kind-eq0.true) (sym (copy_permitted zone_f (length c.args.input.now) c.args.input.now (all_bytes c.args.input.now (λ i. omega (arith, c.type_inv.input i)))))

pub returns-then-kind-eq1 : goal.returns-then-kind-eq1
returns-then-kind-eq1 c =
    λ m. rw (kind_pack c.args.kind c.if-kind-eq1.true)
    (packed_may _ (omega arith) (λ i. omega (arith, c.type_inv.input i)) m _ c.pass.ensures (λ b t small h. search (rules, h)) (λ b t small h. search (rules, h)))

pub returns : goal.returns
returns c =
    λ m. rw (kind_unpack c.args.kind c.if-kind-eq0.false c.if-kind-eq1.false)
    (unpacked_may _ (omega arith) (λ i. omega (arith, c.type_inv.input i)) m _ c.pass-2.ensures (λ b t small h. search (rules, h)) (λ b t small h. search (rules, h)))
