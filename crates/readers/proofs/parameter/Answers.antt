-- `readers::parameter` meets its contract: by its first byte.
use Rattle.std.proofs.Common.{⊎_elim, arith}
use Rattle.rules.proofs.Grammar.ChoiceLaws.{parameter_else}
use Rattle.readers.proofs.parameter.Goals as goal

pub returns-in_default : goal.returns-in_default
returns-in_default c =
    let s = c.args.s.now in
    let e = c.in_default.ensures.1 in
    let t = c.in_default.field-0-test in (
      omega arith,
      parameter_else s (λ z. omega (arith, e)) (λ z. omega (arith, e))
          (⊎_elim (λ z. omega (arith, e)) (λ z. omega (arith, e))) (⊎_elim (λ z. omega (arith, e)) (λ z. omega (arith, e))) (λ z. omega (arith, e)),
    )

pub returns-in_default-2 : goal.returns-in_default-2
returns-in_default-2 c =
    let s = c.args.s.now in
    let e = c.in_default.ensures.1 in
    let t = c.in_default.field-0-test in (
      omega arith,
      parameter_else s (λ z. omega (arith, e)) (λ z. omega (arith, e))
          (⊎_elim (λ z. omega (arith, e)) (λ z. omega (arith, e))) (⊎_elim (λ z. grind arith) (λ z. grind arith)) (λ z. omega (arith, e)),
    )

pub returns-in_default-3 : goal.returns-in_default-3
returns-in_default-3 c =
    let s = c.args.s.now in
    let e = rw c.in_default.is at c.peek.ensures in (
      omega arith,
      parameter_else s (λ z. omega (arith, e)) (λ z. omega (arith, e))
          (⊎_elim (λ z. omega (arith, e)) (λ z. omega (arith, e))) (⊎_elim (λ z. omega (arith, e)) (λ z. omega (arith, e))) (λ z. omega (arith, e)),
    )
