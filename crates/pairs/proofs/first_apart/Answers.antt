-- Each turn compares one pair of records; a walk ends since less of our reel is left at each turn.
use native.Mathlib.Omega.{arith}
use borrow.Author.Rules.{rules}
use Rattle.pairs.proofs.PairLaws.{pair_start, ours_stands, theirs_stands, pair_few, pair_comparable, pair_lacks, pair_stop, pair_more, pair_end}
use Rattle.pairs.proofs.first_apart.Goals as goal

pub loop-mine-init : goal.loop-mine-init
loop-mine-init c =
    (pair_start c.form_of-form.ensures c.form_under-under.ensures c.requires c.taken-w.ensures c.taken-v.ensures, search rules)

pub record-requires : goal.record-requires
record-requires c =
    let f = c.form_of-form.ensures in
    let u = c.form_under-under.ensures in
    let y = c.requires in
    let k = c.loop-mine.invariant.0 in
    ours_stands f u y k

pub record-requires-in-Some : goal.record-requires-in-Some
record-requires-in-Some c =
    let f = c.form_of-form.ensures in
    let u = c.form_under-under.ensures in
    let y = c.requires in
    let k = c.loop-mine.invariant.0 in
    theirs_stands f u y k

pub agree-requires : goal.agree-requires
agree-requires c =
    let f = c.form_of-form.ensures in
    let u = c.form_under-under.ensures in
    let y = c.requires in
    let k = c.loop-mine.invariant.0 in
    pair_comparable f u y k c.in-Some.ensures _ c.loop-mine.invariant.1

pub returns-then-not-agree : goal.returns-then-not-agree
returns-then-not-agree c =
    let f = c.form_of-form.ensures in
    let u = c.form_under-under.ensures in
    let y = c.requires in
    let k = c.loop-mine.invariant.0 in
    pair_stop f u y k c.in-Some.ensures c.in-Some-record.ensures _ c.agree.ensures c.if-not-agree.true

pub overflow_add-number : goal.overflow_add-number
overflow_add-number c =
    let f = c.form_of-form.ensures in
    let u = c.form_under-under.ensures in
    let y = c.requires in
    let k = c.loop-mine.invariant.0 in
    omega (arith, pair_few f u y k)

pub loop-mine-preserved : goal.loop-mine-preserved
loop-mine-preserved c =
    let f = c.form_of-form.ensures in
    let u = c.form_under-under.ensures in
    let y = c.requires in
    let k = c.loop-mine.invariant.0 in
    (pair_more f u y k c.in-Some.ensures c.in-Some-record.ensures _ c.agree.ensures c.if-not-agree.false, omega (arith, c.loop-mine.invariant.1, c.agree.auto.room))

pub returns-in_default-record : goal.returns-in_default-record
returns-in_default-record c =
    let f = c.form_of-form.ensures in
    let u = c.form_under-under.ensures in
    let y = c.requires in
    let k = c.loop-mine.invariant.0 in
    pair_lacks f u y k c.in-Some.ensures c.in_default-record.ensures

pub lacking-requires : goal.lacking-requires
lacking-requires c =
    let f = c.form_of-form.ensures in
    let u = c.form_under-under.ensures in
    let y = c.requires in
    let k = c.loop-mine.invariant.0 in
    theirs_stands f u y k

pub returns : goal.returns
returns c =
    let f = c.form_of-form.ensures in
    let u = c.form_under-under.ensures in
    let y = c.requires in
    let k = c.loop-mine.invariant.0 in
    pair_end f u y k c.in_default.ensures _ c.lacking.ensures
