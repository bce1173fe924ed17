-- `pairs::agree_selected` meets its contract: it compares the lengths, the bytes that the fields write, and with CV the tail, and theirs agrees where all are the same.
use mathlib.Core.Path.{sym}
use Prim.Native.Nat.{◌≤◌}
use lib.ListN.{length}
use lib.Seq.{length-take-le}
use borrow.Author.Rules.{part_to_end}
use Rattle.pairs.proofs.AgreeLaws.{width_inside, front_asked, other_length, front_changed, front_alone, tail_told}
use Rattle.pairs.proofs.agree_selected.Goals as goal

pub returns-then-theirs-output_length : goal.returns-then-theirs-output_length
returns-then-theirs-output_length c =
    other_length c.requires c.args.theirs.now c.output_length.result c.output_length.ensures c.if-theirs-output_length.true

pub slice_bounds-written_over-end : goal.slice_bounds-written_over-end
slice_bounds-written_over-end c =
    let wide : c.args.task.width ≤ length c.args.theirs.now = width_inside c.requires c.args.theirs.now c.output_length.result c.output_length.ensures c.if-theirs-output_length.false in
    sym (length-take-le c.args.task.width c.args.theirs.now wide)

pub written_over-requires : goal.written_over-requires
written_over-requires c =
    let wide : c.args.task.width ≤ length c.args.theirs.now = width_inside c.requires c.args.theirs.now c.output_length.result c.output_length.ensures c.if-theirs-output_length.false in
    let z = front_asked c.requires c.args.theirs.now wide in
    record { fielded = z.0; theirs_len_bound = z.1 }

pub returns-then-not-written_over : goal.returns-then-not-written_over
returns-then-not-written_over c =
    front_changed c.requires c.args.theirs.now c.output_length.result c.output_length.ensures c.if-theirs-output_length.false c.written_over.result
    c.written_over.ensures c.if-not-written_over.true

pub slice_bounds-same-count-then-task : goal.slice_bounds-same-count-then-task
slice_bounds-same-count-then-task c =
    let wide : c.args.task.width ≤ length c.args.theirs.now = width_inside c.requires c.args.theirs.now c.output_length.result c.output_length.ensures c.if-theirs-output_length.false in
    wide

pub slice_bounds-same-start-then-task : goal.slice_bounds-same-start-then-task
slice_bounds-same-start-then-task c =
    let wide : c.args.task.width ≤ length c.args.theirs.now = width_inside c.requires c.args.theirs.now c.output_length.result c.output_length.ensures c.if-theirs-output_length.false in
    wide

pub returns-then-task : goal.returns-then-task
returns-then-task c =
    let a = c.args in
    tail_told c.requires a.theirs.now c.output_length.result c.output_length.ensures c.if-theirs-output_length.false c.written_over.result c.written_over.ensures
    c.if-not-written_over.false c.if-task.true _ _ c.same.result (part_to_end a.record.now a.task.n) (part_to_end a.theirs.now a.task.width) c.same.ensures

pub returns : goal.returns
returns c =
    front_alone c.requires c.args.theirs.now c.output_length.result c.output_length.ensures c.if-theirs-output_length.false c.written_over.result
    c.written_over.ensures c.if-not-written_over.false c.if-task.false
