-- The halves below `from + j` have met the field, and the others are as they were.
use mathlib.Core.Path.{refl, ◌∙◌}
use native.Mathlib.Omega.{arith}
use Rattle.sources.proofs.Walk.{upto_none, upto_more, upto_all}
use Rattle.keeping.proofs.FieldMarks.{met_below, met_inside, met_past, asking_most}
use Rattle.keeping.proofs.mark_field.Goals as goal

pub loop-j-init : goal.loop-j-init
loop-j-init c = upto_none _ _ _ _ (λ k a l. met_below _ _ _ c.requires.field_inside k a (omega arith))

pub overflow_add-marks : goal.overflow_add-marks
overflow_add-marks c = let f = c.requires.field_inside in omega (arith, asking_most _ _ _ c.asking-j-end.ensures, c.loop-j-test.true)

pub bounds-marks-from : goal.bounds-marks-from
bounds-marks-from c =
    let f = c.requires.field_inside in
    let few = asking_most _ _ _ c.asking-j-end.ensures in
    omega (arith, few, c.loop-j-test.true)

pub bounds-marks-from-in-loop-j : goal.bounds-marks-from-in-loop-j
bounds-marks-from-in-loop-j c =
    let f = c.requires.field_inside in
    let few = asking_most _ _ _ c.asking-j-end.ensures in
    omega (arith, few, c.loop-j-test.true)

pub loop-j-preserved : goal.loop-j-preserved
loop-j-preserved c =
    let f = c.requires.field_inside in
    let few = asking_most _ _ _ c.asking-j-end.ensures in
    upto_more _ _ _ _ _ _ _ (omega arith) (rw c.requires.marks_len (omega (arith, few, c.loop-j-test.true)))
    (met_inside _ _ _ f _ _ _ _ refl (omega (arith, few, c.loop-j-test.true)) c.mark_of.ensures)
    c.loop-j.invariant

pub returns : goal.returns
returns c =
    let u = c.loop-j.invariant in
    (u.len ∙ c.requires.marks_len, λ h t. upto_all _ _ _ _ _ (λ j a e. met_past _ _ _ c.requires.field_inside j a (omega (arith, c.asking-j-end.ensures, c.loop-j-test.false))) u h (rw c.requires.marks_len t))
