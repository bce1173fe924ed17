-- Before each turn the blocks so far are laid, so that a turn lays the next record behind them, or in a block of its own.
use mathlib.Core.Path.{ap, sym, ◌∙◌, subst}
use Rattle.fillings.proofs.TallyLaws.{empty_is}
use native.Mathlib.Omega.{arith}
use Rattle.walks.proofs.PromiseLaws.{ended}
use Rattle.tasks.specs.Promise.{output_length_of}
use Rattle.tasks.proofs.LengthLaws.{form_given, length_most}
use Rattle.fixed.specs.Promise.{BodyPut}
use Rattle.fixed.proofs.ReadyLaws.{header_fits, few_blocks}
use Rattle.writers.proofs.TurnLaws.{record_long, stands, turn, width_small, record_ends, record_few}
use Rattle.writers.proofs.LayingLaws.{Laying, tally_read, laying_start, laying_within, laying_length, laying_small, laying_end, laying_fits, laying_writable, laying_next}
use Rattle.writers.proofs.write_walked.Goals as goal

pub overflow_mul-base : goal.overflow_mul-base
overflow_mul-base c = omega (arith, few_blocks c.requires.lent.ready)

pub overflow_add-base : goal.overflow_add-base
overflow_add-base c = omega (arith, few_blocks c.requires.lent.ready)

pub loop-read-init : goal.loop-read-init
loop-read-init c = λ y. subst (Laying c.args.out.now y c.args.out.now c.taken-walk.result) (empty_is c.default-tally.ensures) (laying_start _ y c.form_of-form.ensures c.taken-walk.ensures)

pub record-requires : goal.record-requires
record-requires c =
    let y = c.requires.lent in
    stands y.ready c.form_of-form.ensures (c.loop-read.invariant y).walks

pub output_length-n-requires : goal.output_length-n-requires
output_length-n-requires c =
    let x = c.requires.lent.ready in
    (omega (arith, width_small x), omega (arith, record_ends x c.in-Some.ensures))

pub tallied-more-requires : goal.tallied-more-requires
tallied-more-requires c =
    let y = c.requires.lent in
    let l = c.loop-read.invariant y in
    laying_small c.args.out.now y l c.output_length-n.result
    (omega (arith, c.output_length-n.ensures, length_most c.args.task c.in-Some.read.length, width_small y.ready, record_ends y.ready c.in-Some.ensures))

pub put_next-requires : goal.put_next-requires
put_next-requires c =
    let y = c.requires.lent in
    let l = c.loop-read.invariant y in
    let u = turn y.ready c.form_of-form.ensures l.walks c.in-Some.ensures in
    let v = (tally_read _ _ _ _ _ _ _ c.tallied-more.ensures c.output_length-n.ensures (record_long c.in-Some.ensures)) in
    record { writable = laying_writable c.args.out.now y l u _ v (record_few y.ready c.in-Some.ensures); next_fits = laying_fits c.args.out.now y l u _ v; covers = c.covers-covered.ensures; n_value = (c.output_length-n.ensures ∙ sym (ap (output_length_of c.args.task) (record_long c.in-Some.ensures)), c.requires.format_value) }

pub loop-read-preserved : goal.loop-read-preserved
loop-read-preserved c =
    λ y.
    let l = c.loop-read.invariant y in
    let u = turn y.ready c.form_of-form.ensures l.walks c.in-Some.ensures in
    laying_next c.args.out.now y l u _ (tally_read _ _ _ _ _ _ _ c.tallied-more.ensures c.output_length-n.ensures (record_long c.in-Some.ensures)) _ c.put_next.ensures

pub overflow_mul-blocks : goal.overflow_mul-blocks
overflow_mul-blocks c = omega (arith, few_blocks c.requires.lent.ready)

pub overflow_add-blocks : goal.overflow_add-blocks
overflow_add-blocks c = omega (arith, few_blocks c.requires.lent.ready)

pub overflow_add-base-2 : goal.overflow_add-base-2
overflow_add-base-2 c =
    let y = c.requires.lent in
    let l = c.loop-read.invariant y in
    omega (arith, (laying_within c.args.out.now y l).long, y.ready.most)

pub put_word-requires : goal.put_word-requires
put_word-requires c =
    let y = c.requires.lent in
    let l = c.loop-read.invariant y in
    omega (arith, header_fits y.ready, y.ready.roomy, laying_length c.args.out.now y l)

pub returns : goal.returns
unfolding BodyPut
returns c =
    λ y.
    let l = c.loop-read.invariant y in
    laying_end c.args.out.now y l (ended c.in_default.ensures (form_given y.ready.is c.form_of-form.ensures) l.walks) _ c.put_word.ensures
