-- `readers::format` meets its contract: by the byte behind the F.
use Rattle.std.proofs.Common.{refl, ◌∙◌, arith}
use Rattle.rules.specs.Grammar.{format_is, ff, fv, fu, fsp}
use Rattle.rules.proofs.Grammar.ChoiceLaws.{byte_inside, parameter_ff, parameter_fv, parameter_fu, parameter_fs, parameter_f_else}
use Rattle.readers.proofs.TextPlaces.{alone}
use Rattle.readers.proofs.format.Goals as goal

pub returns-in-Some-eq70 : goal.returns-in-Some-eq70
returns-in-Some-eq70 c =
    let s = c.args.s.now in
    let e = c.in-Some-eq70.ensures.1 ∙ c.in-Some-eq70.field-0-test in
    rw c.single.ensures (alone s 2 (format_is ff) (λ k. refl) (omega arith, parameter_ff s c.requires e))

pub returns-in-Some-eq86 : goal.returns-in-Some-eq86
returns-in-Some-eq86 c =
    let s = c.args.s.now in
    let e = c.in-Some-eq86.ensures.1 ∙ c.in-Some-eq86.field-0-test in
    rw c.single-in-Some-eq86.ensures (alone s 2 (format_is fv) (λ k. refl) (omega arith, parameter_fv s c.requires e))

pub returns-in-Some-eq85 : goal.returns-in-Some-eq85
returns-in-Some-eq85 c =
    let s = c.args.s.now in
    let e = c.in-Some-eq85.ensures.1 ∙ c.in-Some-eq85.field-0-test in
    rw c.single-in-Some-eq85.ensures (alone s 2 (format_is fu) (λ k. refl) (omega arith, parameter_fu s c.requires e))

pub returns-in-Some-eq83 : goal.returns-in-Some-eq83
returns-in-Some-eq83 c =
    let s = c.args.s.now in
    let e = c.in-Some-eq83.ensures.1 ∙ c.in-Some-eq83.field-0-test in
    rw c.single-in-Some-eq83.ensures (alone s 2 (format_is fsp) (λ k. refl) (omega arith, parameter_fs s c.requires e))

pub returns-in_default : goal.returns-in_default
returns-in_default c =
    let s = c.args.s.now in
    let e = c.in_default.ensures.1 in
    let t = c.in_default.field-0-test in
    (omega (arith, byte_inside s 0 70 c.requires (omega arith)), parameter_f_else s c.requires (λ z. omega arith) (λ z. omega arith) (λ z. omega arith) (λ z. omega arith))

pub returns-in_default-2 : goal.returns-in_default-2
returns-in_default-2 c =
    let s = c.args.s.now in
    let e = rw c.in_default.is at c.peek.ensures in
    (omega (arith, byte_inside s 0 70 c.requires (omega arith)), parameter_f_else s c.requires (λ z. omega (arith, e)) (λ z. omega (arith, e)) (λ z. omega (arith, e)) (λ z. omega (arith, e)))
