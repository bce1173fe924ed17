-- `readers::rewind` meets its contract: by the byte behind the I or the O.
use Rattle.std.proofs.Common.{◌<◌, length, get_or, refl, sym, subst, ⊎_elim, arith}
use Rattle.rules.specs.Grammar.{rewind_in, rewind_out}
use Rattle.rules.proofs.Grammar.ChoiceLaws.{Ending, byte_inside, parameter_i_letter, parameter_o_letter, parameter_rewind_else}
use Rattle.readers.proofs.Parts.{not_there}
use Rattle.readers.proofs.Parameters.{ending_inside}
use Rattle.readers.proofs.TextPlaces.{alone}
use Rattle.readers.proofs.rewind.Goals as goal

pub returns-then-is_at : goal.returns-then-is_at
returns-then-is_at c =
    let s = c.args.s.now in
    let e : Ending (get_or s 1 256) = subst Ending (sym c.in-Some-eq82.ensures.1) c.in-Some-eq82.field-0-test in
    rw c.single.ensures (alone s 2 rewind_in (λ k. refl) (ending_inside s e, parameter_i_letter s (c.is_at.ensures.0 c.if-is_at.true) e))

pub returns-else-is_at : goal.returns-else-is_at
returns-else-is_at c =
    let s = c.args.s.now in
    let e : Ending (get_or s 1 256) = subst Ending (sym c.in-Some-eq82.ensures.1) c.in-Some-eq82.field-0-test in
    let o = ⊎_elim (λ z. absurd (not_there c.is_at.result c.is_at.ensures.1 c.if-is_at.false z)) (λ z. z) c.requires in
    rw c.single-in-Some-eq82.ensures (alone s 2 rewind_out (λ k. refl) (ending_inside s e, parameter_o_letter s o e))

pub returns-in_default : goal.returns-in_default
returns-in_default c =
    let s = c.args.s.now in
    let l : 0 < length s = ⊎_elim (λ z. byte_inside s 0 73 z (omega arith)) (λ z. byte_inside s 0 79 z (omega arith)) c.requires in
    (omega arith, parameter_rewind_else s c.requires (λ e. c.in_default.field-0-test.1 (subst Ending c.in_default.ensures.1 e)))

pub returns-in_default-2 : goal.returns-in_default-2
returns-in_default-2 c =
    let s = c.args.s.now in
    let n = rw c.in_default.is at c.peek.ensures in
    let l : 0 < length s = ⊎_elim (λ z. byte_inside s 0 73 z (omega arith)) (λ z. byte_inside s 0 79 z (omega arith)) c.requires in
    (omega arith, parameter_rewind_else s c.requires (⊎_elim (λ z. omega (arith, n)) (⊎_elim (λ z. omega (arith, n)) (λ z. omega (arith, n)))))
