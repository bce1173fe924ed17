-- `cards::u_card` meets its contract: the loop's invariant is that what was noted and what the rest of the card says
-- are what the card says, and each way out of the loop is a way in which a list ends. The measure is what is left of the card.
use mathlib.Core.Path.{sym, subst}
use mathlib.Core.List.{List}
use Prim.Native.Nat.{ℕ}
use native.Mathlib.Omega.{arith}
use lib.ListN.{drop}
use borrow.Author.Rules.{part_to_end}
use Rattle.std.specs.Prelude.{Ok, Err}
use Rattle.readers.specs.Meaning.{ParameterSays}
use Rattle.cards.specs.declared.Parameters.{Parameters}
use Rattle.cards.specs.declared.OutsideColumns.{OutsideColumns}
use Rattle.cards.specs.Parameters.{none_outside}
use Rattle.cards.proofs.ParameterLaws.{Going, going_start, going_stop, parameter_inside, second_low, going_last, going_other, going_more}
use Rattle.cards.proofs.u_card.Goals as goal

pub loop-stop-init : goal.loop-stop-init
loop-stop-init c =
    let a = c.args in
    subst (λ (o : OutsideColumns). Going a.column a.operand.now c.no_parameter-state.result o 0) (sym c.none_outside-outside.ensures)
    (subst (λ (x : Parameters). Going a.column a.operand.now x none_outside 0) (sym c.no_parameter-state.ensures) (going_start a.column a.operand.now))

pub returns-in-Err : goal.returns-in-Err
returns-in-Err c =
    let a = c.args in
    let o = a.operand.now in
    let l = c.loop-stop in
    let is : ParameterSays (drop l.at o) (Err c.in-Err.stop) = subst (λ (s : List ℕ). ParameterSays s (Err c.in-Err.stop)) (part_to_end o l.at) c.in-Err.ensures in
    going_stop a.column c.requires.0 o l.state l.outside l.at l.invariant c.in-Err.stop is

-- what `parameter` read from here on stands inside the operand, and so does its second number
pub with_numbers-outside-requires : goal.with_numbers-outside-requires
with_numbers-outside-requires c =
    let a = c.args in
    let o = a.operand.now in
    let l = c.loop-stop in
    let g = c.in-Ok.found in
    let is : ParameterSays (drop l.at o) (Ok g) = subst (λ (s : List ℕ). ParameterSays s (Ok g)) (part_to_end o l.at) c.in-Ok.ensures in
    let h = parameter_inside a.column c.requires.0 o l.state l.outside l.at l.invariant g is in
    let k = second_low a.column c.requires.0 o l.state l.outside l.at l.invariant g is in
    (omega arith, omega arith)

pub returns-then-at-operand : goal.returns-then-at-operand
returns-then-at-operand c =
    let a = c.args in
    let o = a.operand.now in
    let l = c.loop-stop in
    let g = c.in-Ok.found in
    let is : ParameterSays (drop l.at o) (Ok g) = subst (λ (s : List ℕ). ParameterSays s (Ok g)) (part_to_end o l.at) c.in-Ok.ensures in
    rw (c.with_parameter-state.ensures, c.with_numbers-outside.ensures) (going_last a.column c.requires.0 o l.state l.outside l.at l.invariant g is c.if-at-operand.true)

pub returns-then-operand-at-ne-COMMA : goal.returns-then-operand-at-ne-COMMA
returns-then-operand-at-ne-COMMA c =
    let a = c.args in
    let o = a.operand.now in
    let l = c.loop-stop in
    let g = c.in-Ok.found in
    let is : ParameterSays (drop l.at o) (Ok g) = subst (λ (s : List ℕ). ParameterSays s (Ok g)) (part_to_end o l.at) c.in-Ok.ensures in
    let h = parameter_inside a.column c.requires.0 o l.state l.outside l.at l.invariant g is in
    let k = c.if-at-operand.false in
    going_other a.column c.requires.0 o l.state l.outside l.at l.invariant g is (omega arith) c.if-operand-at-ne-COMMA.true

pub loop-stop-preserved : goal.loop-stop-preserved
loop-stop-preserved c =
    let a = c.args in
    let o = a.operand.now in
    let l = c.loop-stop in
    let g = c.in-Ok.found in
    let is : ParameterSays (drop l.at o) (Ok g) = subst (λ (s : List ℕ). ParameterSays s (Ok g)) (part_to_end o l.at) c.in-Ok.ensures in
    let h = parameter_inside a.column c.requires.0 o l.state l.outside l.at l.invariant g is in
    let k = c.if-at-operand.false in
    rw (c.with_parameter-state.ensures, c.with_numbers-outside.ensures) (going_more a.column c.requires.0 o l.state l.outside l.at l.invariant g is (omega arith) c.if-operand-at-ne-COMMA.false)
