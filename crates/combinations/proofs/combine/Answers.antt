-- Each test in turn, the first that fails being the answer: the lines of place 1, the cards, the first card at fault, and then the fields.
use mathlib.Core.Path.{◌≡◌, ap, sym, ◌∙◌}
use Rattle.std.proofs.Common.{Some, None}
use Rattle.rows.specs.Kept.{fields_in}
use Rattle.combinations.specs.Promise.{card_fault, unless_at}
use Rattle.combinations.proofs.CombineLaws.{broken_lines, broken_cards, broken_card, by_fields}
use Rattle.combinations.proofs.combine.Goals as goal

pub returns-then-not-right : goal.returns-then-not-right
returns-then-not-right c = broken_lines c.args.asked (fields_in c.args.fields.now) (sym c.right.ensures ∙ c.if-not-right.true)

pub returns-then-not-cards_allowed : goal.returns-then-not-cards_allowed
returns-then-not-cards_allowed c =
    broken_cards c.args.asked (fields_in c.args.fields.now) (sym c.right.ensures ∙ c.if-not-right.false) (sym c.cards_allowed.ensures ∙ c.if-not-cards_allowed.true)

pub returns-in-Some : goal.returns-in-Some
unfolding card_fault
returns-in-Some c =
    let card : card_fault c.args.asked ≡ Some c.in-Some.place = sym (c.in-Some.ensures ∙ rw (c.fault-cv.ensures, c.is_fv.ensures, c.fault-keyed.ensures)) in
    broken_card c.args.asked (fields_in c.args.fields.now) (sym c.right.ensures ∙ c.if-not-right.false) (sym c.cards_allowed.ensures ∙ c.if-not-cards_allowed.false) _ card

pub returns-in-Some-first_outside : goal.returns-in-Some-first_outside
unfolding card_fault
returns-in-Some-first_outside c =
    let none : card_fault c.args.asked ≡ None = sym (c.in_default.ensures ∙ rw (c.fault-cv.ensures, c.is_fv.ensures, c.fault-keyed.ensures)) in
    ap (unless_at 9) (c.in-Some-first_outside.ensures ∙ rw (c.record_length-a.ensures, c.record_length-b.ensures))
    ∙ by_fields c.args.asked (fields_in c.args.fields.now) (sym c.right.ensures ∙ c.if-not-right.false) (sym c.cards_allowed.ensures ∙ c.if-not-cards_allowed.false) none

pub returns-in-None : goal.returns-in-None
unfolding card_fault
returns-in-None c =
    let none : card_fault c.args.asked ≡ None = sym (c.in_default.ensures ∙ rw (c.fault-cv.ensures, c.is_fv.ensures, c.fault-keyed.ensures)) in
    ap (unless_at 9) (c.in-None.ensures ∙ rw (c.record_length-a.ensures, c.record_length-b.ensures))
    ∙ by_fields c.args.asked (fields_in c.args.fields.now) (sym c.right.ensures ∙ c.if-not-right.false) (sym c.cards_allowed.ensures ∙ c.if-not-cards_allowed.false) none
