-- `cards::list` and `cards::rest` meet their contracts: a list reads its item and then its rest, a rest is nothing, a slash and a list, or stops.
use mathlib.Core.Path.{◌≡◌, ap, sym, ◌∙◌, subst}
use native.Mathlib.Omega.{arith}
use borrow.Author.Rules.{part_to_end}
use Rattle.readers.specs.declared.CardItem.{CardItem}
use Rattle.readers.specs.Meaning.{ItemReads, ItemSays, a_field, a_cv}
use Rattle.readers.proofs.Callers.{field_takes, field_small, cv_takes}
use Rattle.terms.specs.Meaning.{part_of}
use Rattle.rows.specs.Flat.{Short}
use Rattle.cards.specs.declared.Noted.{Noted}
use Rattle.cards.proofs.RowLaws.{field_key, cv_key}
use Rattle.cards.proofs.ListedLaws.{outside_is, places_low, kept_short, listed_field, listed_cv, listed_none, rest_ended, rest_slash, rest_other_byte}
use Rattle.cards.proofs.+list_rest.Goals as goal

pub list-field_outside-outside-requires : goal.list-field_outside-outside-requires
list-field_outside-outside-requires t c =
    let o = c.args.operand.now in
    let g = c.in-Field in
    let n = c.in-Ok.found.used in
    let e : ItemSays o (a_field g.part g.field g.places n) = subst (λ (x : CardItem). ItemReads o x n) g.is c.in-Ok.ensures in
    let l = places_low _ _ _ _ _ e in
    let k = e.0.0 in
    (e.1, c.requires.1, omega arith, omega arith, omega arith, omega arith)

pub list-laid-own-requires : goal.list-laid-own-requires
list-laid-own-requires t c =
    let o = c.args.operand.now in
    let g = c.in-Field in
    let n = c.in-Ok.found.used in
    let e : ItemSays o (a_field g.part g.field g.places n) = subst (λ (x : CardItem). ItemReads o x n) g.is c.in-Ok.ensures in
    let f = field_small _ _ _ _ _ e in
    record { small = f.r; short = f.input; within = c.requires.3 }

pub list-keep-requires : goal.list-keep-requires
list-keep-requires t c =
    let o = c.args.operand.now in
    let g = c.in-Field in
    let n = c.in-Ok.found.used in
    let e : ItemSays o (a_field g.part g.field g.places n) = subst (λ (x : CardItem). ItemReads o x n) g.is c.in-Ok.ensures in (
      c.requires.0,
      λ z. subst Short (sym c.laid-own.ensures.0)
          (kept_short o g.part g.field g.places n e c.args.noted.key c.args.column c.requires.3 c.requires.1
          (rw (← outside_is o g.part g.field g.places n e c.args.column, ← c.field_outside-outside.ensures) z)),
    )

pub list-rest-requires : goal.list-rest-requires
list-rest-requires t c =
    let o = c.args.operand.now in
    let g = c.in-Field in
    let n = c.in-Ok.found.used in
    let e : ItemSays o (a_field g.part g.field g.places n) = subst (λ (x : CardItem). ItemReads o x n) g.is c.in-Ok.ensures in
    let h = field_takes _ _ _ _ _ e in
    let k = e.0.0 in
    let same : c.field_noted-after.result.key ≡ c.args.noted.key = rw c.field_noted-after.ensures (field_key c.args.noted c.args.card (part_of g.part) c.field_outside-outside.result) in
    (omega arith, (c.keep.ensures.0, omega arith, omega arith, omega (arith, same, c.requires.3)))

pub list-rest-requires-in-CV : goal.list-rest-requires-in-CV
list-rest-requires-in-CV t c =
    let o = c.args.operand.now in
    let n = c.in-Ok.found.used in
    let e : ItemSays o (a_cv n) = subst (λ (x : CardItem). ItemReads o x n) c.in-CV.is c.in-Ok.ensures in
    let h = cv_takes _ _ e in
    let k = e.0 in
    let same = ap (λ (x : Noted). x.key) c.cv_noted-after.ensures ∙ cv_key c.args.noted c.args.card c.args.column in
    (omega arith, (c.requires.0, omega arith, omega arith, omega (arith, same, c.requires.3)))

pub list-returns-in-Field : goal.list-returns-in-Field
list-returns-in-Field t c =
    let o = c.args.operand.now in
    let g = c.in-Field in
    let n = c.in-Ok.found.used in
    let e : ItemSays o (a_field g.part g.field g.places n) = subst (λ (x : CardItem). ItemReads o x n) g.is c.in-Ok.ensures in
    let a = c.args in (
      c.rest.ensures.0,
      listed_field a.card a.column (a.noted, a.row.now) o g.part g.field g.places n e
          _ c.field_outside-outside.ensures _ c.laid-own.ensures.0
          _ c.keep.ensures.1 _ c.field_noted-after.ensures
          _ (part_to_end o n) c.rest.result _ c.rest.ensures.1,
    )

pub list-returns-in-CV : goal.list-returns-in-CV
list-returns-in-CV t c =
    let o = c.args.operand.now in
    let n = c.in-Ok.found.used in
    let e : ItemSays o (a_cv n) = subst (λ (x : CardItem). ItemReads o x n) c.in-CV.is c.in-Ok.ensures in
    let a = c.args in
    (c.rest-in-CV.ensures.0, listed_cv a.card a.column (a.noted, a.row.now) o n e _ c.cv_noted-after.ensures _ (part_to_end o n) c.rest-in-CV.result _ c.rest-in-CV.ensures.1)

pub list-returns-in-Err : goal.list-returns-in-Err
list-returns-in-Err t c =
    let a = c.args in
    (c.requires.0, listed_none a.card a.column (a.noted, a.row.now) a.operand.now c.in-Err.stop c.in-Err.ensures _)

pub rest-returns-then-operand-eq0 : goal.rest-returns-then-operand-eq0
rest-returns-then-operand-eq0 t c =
    let a = c.args in
    (c.requires.0, rest_ended a.card a.column (a.noted, a.row.now) a.operand.now c.if-operand-eq0.true)

pub rest-returns-then-operand-eq-SLASH : goal.rest-returns-then-operand-eq-SLASH
rest-returns-then-operand-eq-SLASH t c =
    let a = c.args in
    let o = a.operand.now in
    (c.list.ensures.0, rest_slash a.card a.column (a.noted, a.row.now) o (omega arith) c.if-operand-eq-SLASH.true _ (part_to_end o 1) c.list.result _ c.list.ensures.1)

pub rest-returns : goal.rest-returns
rest-returns t c =
    let a = c.args in
    (c.requires.0, rest_other_byte a.card a.column (a.noted, a.row.now) a.operand.now (omega arith) c.if-operand-eq-SLASH.false _)
