-- Each turn compares one pair of records; the counts tell how many pairs there are, and whether a record is left over.
use mathlib.Core.Path.{◌≡◌, subst}
use Prim.Native.Nat.{◌+◌, ◌<◌, min}
use native.Mathlib.Omega.{arith}
use Rattle.std.specs.Prelude.{Some}
use Rattle.span_pairs.specs.Promise.{SpannedApartAt}
use Rattle.span_pairs.proofs.PairLaws.{takeable, takeable', left_start, next, coming, coming', streamed, apart_size, apart_data, left_more, apart_none, apart_lacks}
use Rattle.span_pairs.proofs.first_apart.Goals as goal
use Rattle.span_pairs.proofs.first_apart.Goals.{then-mine-other-via-then-mine-other, then-mine-other-via-else-mine-other+then-not-same}

pub taken-at-requires : goal.taken-at-requires
taken-at-requires c =
    takeable c.requires

pub taken-there-requires : goal.taken-there-requires
taken-there-requires c =
    takeable' c.requires

pub loop-number-init : goal.loop-number-init
loop-number-init c =
    λ y. left_start y c.taken-at.ensures c.taken-there.ensures

pub ahead-mine-requires : goal.ahead-mine-requires
ahead-mine-requires c =
    let k = c.loop-number.invariant in
    let s = c.min-pairs.ensures in
    let a = c.args in
    let y = c.requires in
    let l : c.loop-number.number < min a.count a.others = omega (arith, s, c.loop-number-test.true) in
    coming y (k y) (next y (k y) l)

pub ahead-other-requires : goal.ahead-other-requires
ahead-other-requires c =
    let k = c.loop-number.invariant in
    let s = c.min-pairs.ensures in
    let a = c.args in
    let y = c.requires in
    let l : c.loop-number.number < min a.count a.others = omega (arith, s, c.loop-number-test.true) in
    coming' y (k y) (next y (k y) l)

pub same-requires : goal.same-requires
same-requires c =
    let k = c.loop-number.invariant in
    let s = c.min-pairs.ensures in
    let a = c.args in
    let y = c.requires in
    let l : c.loop-number.number < min a.count a.others = omega (arith, s, c.loop-number-test.true) in
    streamed y (k y) (next y (k y) l) c.ahead-mine.ensures c.ahead-other.ensures c.if-mine-other.false

pub overflow_add-result : goal.overflow_add-result
overflow_add-result c =
    let s = c.min-pairs.ensures in
    let a = c.args in
    let l : c.loop-number.number < min a.count a.others = omega (arith, s, c.loop-number-test.true) in
    omega arith

pub returns-then-mine-other : goal.returns-then-mine-other
returns-then-mine-other c =
    let k = c.loop-number.invariant in
    let s = c.min-pairs.ensures in
    let a = c.args in
    let l : c.loop-number.number < min a.count a.others = omega (arith, s, c.loop-number-test.true) in
    elim c.then-mine-other.branch [
      | then-mine-other-via-then-mine-other w ↦ apart_size k l c.ahead-mine.ensures c.ahead-other.ensures w.if-mine-other.true
      | then-mine-other-via-else-mine-other+then-not-same w ↦
          apart_data k l c.ahead-mine.ensures c.ahead-other.ensures w.if-mine-other.false _ w.same.ensures w.if-not-same.true
    ]

pub loop-number-preserved : goal.loop-number-preserved
loop-number-preserved c =
    let k = c.loop-number.invariant in
    let s = c.min-pairs.ensures in
    let a = c.args in
    let l : c.loop-number.number < min a.count a.others = omega (arith, s, c.loop-number-test.true) in
    left_more k l c.ahead-mine.ensures c.ahead-other.ensures c.if-mine-other.false _ c.same.ensures c.if-not-same.false

pub returns-then-count-others : goal.returns-then-count-others
returns-then-count-others c = apart_none c.loop-number.invariant (omega (arith, c.min-pairs.ensures, c.loop-number-test.false)) c.if-count-others.true

pub overflow_add-result-2 : goal.overflow_add-result-2
overflow_add-result-2 c =
    let s = c.min-pairs.ensures in
    let o = c.if-count-others.false in
    omega arith

pub returns : goal.returns
returns c =
    let a = c.args in
    let s = c.min-pairs.ensures in
    let all : c.loop-number.number ≡ c.min-pairs.result = omega (arith, c.loop-number-test.false) in
    subst (λ n. SpannedApartAt a.ours.now a.passed a.count a.theirs.now a.others (Some (n + 1))) all
    (apart_lacks c.loop-number.invariant (omega (arith, c.loop-number-test.false)) c.if-count-others.false)
