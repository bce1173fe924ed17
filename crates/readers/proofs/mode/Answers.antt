-- `readers::mode` meets its contract: by the bytes behind the T.
use Rattle.std.proofs.Common.{refl, ◌∙◌, arith}
use Rattle.rules.specs.Grammar.{mode_is, tc, tf, tr, trf}
use Rattle.rules.proofs.Grammar.ChoiceLaws.{byte_inside, parameter_tc, parameter_tf, parameter_tr, parameter_trf, parameter_t_else}
use Rattle.readers.proofs.Parts.{not_there}
use Rattle.readers.proofs.TextPlaces.{alone}
use Rattle.readers.proofs.mode.Goals as goal

pub returns-in-Some-eq67 : goal.returns-in-Some-eq67
returns-in-Some-eq67 c =
    let s = c.args.s.now in
    let e = c.in-Some-eq67.ensures.1 ∙ c.in-Some-eq67.field-0-test in
    rw c.single.ensures (alone s 2 (mode_is tc) (λ k. refl) (omega arith, parameter_tc s c.requires e))

pub returns-in-Some-eq70 : goal.returns-in-Some-eq70
returns-in-Some-eq70 c =
    let s = c.args.s.now in
    let e = c.in-Some-eq70.ensures.1 ∙ c.in-Some-eq70.field-0-test in
    rw c.single-in-Some-eq70.ensures (alone s 2 (mode_is tf) (λ k. refl) (omega arith, parameter_tf s c.requires e))

pub returns-in-Some-eq82 : goal.returns-in-Some-eq82
returns-in-Some-eq82 c =
    let s = c.args.s.now in
    let e = c.in-Some-eq82.ensures.1 ∙ c.in-Some-eq82.field-0-test in
    rw c.single-in-Some-eq82.ensures (alone s 3 (mode_is trf) (λ k. refl) (omega (arith, byte_inside s 2 70 (c.is_at.ensures.0 c.if-is_at.true) (omega arith)), parameter_trf s c.requires e (c.is_at.ensures.0 c.if-is_at.true)))

pub returns-in-Some-eq82-2 : goal.returns-in-Some-eq82-2
returns-in-Some-eq82-2 c =
    let s = c.args.s.now in
    let e = c.in-Some-eq82.ensures.1 ∙ c.in-Some-eq82.field-0-test in
    rw c.single-in-Some-eq82-2.ensures (alone s 2 (mode_is tr) (λ k. refl) (omega arith, parameter_tr s c.requires e (not_there c.is_at.result c.is_at.ensures.1 c.if-is_at.false)))

pub returns-in_default : goal.returns-in_default
returns-in_default c =
    let s = c.args.s.now in
    let e = c.in_default.ensures.1 in
    let t = c.in_default.field-0-test in
    (omega (arith, byte_inside s 0 84 c.requires (omega arith)), parameter_t_else s c.requires (λ z. omega arith) (λ z. omega arith) (λ z. omega arith))

pub returns-in_default-2 : goal.returns-in_default-2
returns-in_default-2 c =
    let s = c.args.s.now in
    let e = rw c.in_default.is at c.peek.ensures in
    (omega (arith, byte_inside s 0 84 c.requires (omega arith)), parameter_t_else s c.requires (λ z. omega (arith, e)) (λ z. omega (arith, e)) (λ z. omega (arith, e)))
