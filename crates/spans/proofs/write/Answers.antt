-- Before each turn the blocks so far are laid, so that a turn lays the segments of the next record behind them.
use mathlib.Core.Path.{sym, ◌∙◌}
use native.Mathlib.Omega.{arith}
use Rattle.spans.specs.Promise.{SpannedPut}
use Rattle.spans.proofs.WalkLaws.{passes_coming, passes_turn}
use Rattle.spans.proofs.WriteLaws.{header_fits, few_blocks, lent_as, writes_start, writes_within, writes_length, writes_streaming, writes_fits, writes_next, writes_end}
use Rattle.spans.proofs.write.Goals as goal

pub overflow_mul-base : goal.overflow_mul-base
overflow_mul-base c = omega (arith, few_blocks c.requires)

pub overflow_add-base : goal.overflow_add-base
overflow_add-base c = omega (arith, few_blocks c.requires)

pub put_word-requires : goal.put_word-requires
put_word-requires c = omega (arith, header_fits c.requires)

pub loop-number-init : goal.loop-number-init
loop-number-init c = λ y. writes_start _ y c.full-tally.ensures

pub ahead-next-requires : goal.ahead-next-requires
ahead-next-requires c =
    let y = lent_as (sym c.put_word.auto.out) c.requires in
    passes_coming _ y.standing (c.loop-number.invariant y).passes c.loop-number-test.true

pub put_record-tally-requires : goal.put_record-tally-requires
put_record-tally-requires c =
    let y = lent_as (sym c.put_word.auto.out) c.requires in
    let w = c.loop-number.invariant y in
    let x = passes_turn _ y.standing w.passes c.loop-number-test.true c.ahead-next.ensures in
    record { streaming = writes_streaming _ y w x; record_fits = writes_fits _ y w x }

pub loop-number-preserved : goal.loop-number-preserved
loop-number-preserved c = λ y.
    let w = c.loop-number.invariant y in
    writes_next _ y w (passes_turn _ y.standing w.passes c.loop-number-test.true c.ahead-next.ensures) c.put_record-tally.ensures

pub overflow_mul-blocks : goal.overflow_mul-blocks
overflow_mul-blocks c = omega (arith, few_blocks c.requires)

pub overflow_add-blocks : goal.overflow_add-blocks
overflow_add-blocks c = omega (arith, few_blocks c.requires)

pub overflow_add-base-2 : goal.overflow_add-base-2
overflow_add-base-2 c =
    let y = lent_as (sym c.put_word.auto.out) c.requires in
    omega (arith, (writes_within _ y (c.loop-number.invariant y)).most)

pub put_word-requires-2 : goal.put_word-requires-2
put_word-requires-2 c =
    let y = lent_as (sym c.put_word.auto.out) c.requires in
    omega (arith, header_fits y, writes_length _ y (c.loop-number.invariant y))

pub shape_of-out : goal.shape_of-out
shape_of-out c =
    let y = lent_as (sym c.put_word.auto.out) c.requires in
    c.put_word-2.auto.out ∙ writes_length _ y (c.loop-number.invariant y) ∙ c.put_word.auto.out

pub returns : goal.returns
unfolding SpannedPut
returns c =
    λ z.
    let y = lent_as (sym c.put_word.auto.out) z in
    c.put_word-2.ensures
    ∙ writes_end _ y (c.loop-number.invariant y) (omega arith) _ c.put_word.ensures z.roomy
