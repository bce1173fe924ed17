-- The deck's refusal where it is refused, 16 where its plan keeps, and else what its plan shows: by cases on the plan, as the rules go.
use mathlib.Core.Path.{◌≡◌, sym, subst}
use Prim.Native.Nat.{◌*◌, ◌≤◌}
use native.Mathlib.Omega.{arith}
use lib.ListN.{length}
use lib.Seq.{length-take-le}
use Rattle.rows.proofs.RowLaws.{row_none}
use Rattle.twins.specs.Promise.{TwinsWritten}
use Rattle.twins.specs.declared.Twins.{Twins}
use Rattle.twins.proofs.ShowLaws.{twins_refused, fields_stand, twins_kept, loses_of, twins_shown, fair_plan}
use Rattle.twins.proofs.twins_of.Goals as goal

pub plan_deck-p-requires : goal.plan_deck-p-requires
plan_deck-p-requires c = sym row_none

pub returns-then-p-ne0 : goal.returns-then-p-ne0
returns-then-p-ne0 c =
    let a = c.args in
    let p = c.plan_deck-p in
    subst (λ (t : Twins). TwinsWritten a.deck.now a.out.now t a.out.now) (sym c.refused.ensures)
    (twins_refused a.deck.now a.out.now p.result p.new.row p.ensures c.if-p-ne0.true)

pub returns-then-p-ne0-2 : goal.returns-then-p-ne0-2
returns-then-p-ne0-2 c =
    let a = c.args in
    let p = c.plan_deck-p in
    subst (λ (t : Twins). TwinsWritten a.deck.now a.out.now t a.out.now) (sym c.refused-then-p-ne0-2.ensures)
    (twins_kept a.deck.now a.out.now p.result p.new.row p.ensures c.if-p-ne0.false c.if-p-ne0-2.true)

-- where the deck is accepted, the numbers of its fields stand in the row
pub overflow_mul-end : goal.overflow_mul-end
overflow_mul-end c =
    let stand : c.plan_deck-p.result.answer.refusal ≡ 0 → (5 * c.plan_deck-p.result.asked.count ≤ 320) × (length c.plan_deck-p.new.row ≡ 320) = λ z. let a = c.args in
    fields_stand a.deck.now a.out.now c.plan_deck-p.result c.plan_deck-p.new.row c.plan_deck-p.ensures z in
    record { fits = omega (arith, (stand c.if-p-ne0.false).0) }

pub slice_bounds-row-end : goal.slice_bounds-row-end
slice_bounds-row-end c =
    let stand : c.plan_deck-p.result.answer.refusal ≡ 0 → (5 * c.plan_deck-p.result.asked.count ≤ 320) × (length c.plan_deck-p.new.row ≡ 320) = λ z. let a = c.args in
    fields_stand a.deck.now a.out.now c.plan_deck-p.result c.plan_deck-p.new.row c.plan_deck-p.ensures z in
    let w = stand c.if-p-ne0.false in omega (arith, w.0, w.1)

pub slice_bounds-show-end : goal.slice_bounds-show-end
slice_bounds-show-end c =
    let stand : c.plan_deck-p.result.answer.refusal ≡ 0 → (5 * c.plan_deck-p.result.asked.count ≤ 320) × (length c.plan_deck-p.new.row ≡ 320) = λ z. let a = c.args in
    fields_stand a.deck.now a.out.now c.plan_deck-p.result c.plan_deck-p.new.row c.plan_deck-p.ensures z in
    let w = stand c.if-p-ne0.false in
    sym (length-take-le (5 * c.plan_deck-p.result.asked.count) c.plan_deck-p.new.row (omega (arith, w.0, w.1)))

pub show-requires : goal.show-requires
show-requires c =
    let a = c.args in
    let p = c.plan_deck-p in
    let z = c.if-p-ne0.false in record { plan_fair = fair_plan a.deck.now a.out.now p.result p.new.row p.ensures z; loses = loses_of a.deck.now a.out.now p.result p.new.row p.ensures z c.if-p-ne0-2.false }

pub returns : goal.returns
returns c =
    let a = c.args in
    let p = c.plan_deck-p in
    twins_shown a.deck.now a.out.now p.result p.new.row p.ensures c.if-p-ne0.false
    c.if-p-ne0-2.false _ _ c.show.ensures
