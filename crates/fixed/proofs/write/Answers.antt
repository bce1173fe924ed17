-- The offsets, and behind them the outputs of all records taken.
use mathlib.Core.Path.{◌≡◌, ap, ◌∙◌}
use Prim.Native.Nat.{◌+◌, ◌*◌}
use native.Mathlib.Omega.{arith}
use lib.ListN.{length}
use borrow.Rule.Slice.PartMut.{mid_len}
use Rattle.pieces.specs.declared.Form.{Form}
use Rattle.walks.specs.Walking.{fixed_start}
use Rattle.tasks.specs.Promise.{form_of}
use Rattle.fixed.proofs.ReadyLaws.{few_blocks}
use Rattle.fixed.proofs.FixedWrite.{ends_given, bytes_given, room_behind, body_put}
use Rattle.fixed.proofs.write.Goals as goal

pub overflow_mul-base : goal.overflow_mul-base
overflow_mul-base c = omega (arith, few_blocks c.requires.lent.ready)

pub overflow_add-base : goal.overflow_add-base
overflow_add-base c = omega (arith, few_blocks c.requires.lent.ready)

pub put_ends-requires : goal.put_ends-requires
put_ends-requires c =
    let start : c.fixed_start-from.result ≡ fixed_start (form_of c.args.task) c.args.reel.now c.args.task.first = c.fixed_start-from.ensures ∙ ap (λ (f : Form). fixed_start f c.args.reel.now c.args.task.first) c.form_of.ensures in
    ends_given c.args.out.now c.requires.lent c.requires.format_value start _ (ap length c.rest-data.ensures)

pub slice_bounds-put_bytes-count : goal.slice_bounds-put_bytes-count
slice_bounds-put_bytes-count c =
    let start : c.fixed_start-from.result ≡ fixed_start (form_of c.args.task) c.args.reel.now c.args.task.first = c.fixed_start-from.ensures ∙ ap (λ (f : Form). fixed_start f c.args.reel.now c.args.task.first) c.form_of.ensures in
    omega (arith, room_behind c.args.out.now c.requires.lent c.requires.format_value start _ c.put_ends.auto.out)

pub slice_bounds-put_bytes-start : goal.slice_bounds-put_bytes-start
slice_bounds-put_bytes-start c =
    let start : c.fixed_start-from.result ≡ fixed_start (form_of c.args.task) c.args.reel.now c.args.task.first = c.fixed_start-from.ensures ∙ ap (λ (f : Form). fixed_start f c.args.reel.now c.args.task.first) c.form_of.ensures in
    omega (arith, room_behind c.args.out.now c.requires.lent c.requires.format_value start _ c.put_ends.auto.out)

pub put_bytes-requires : goal.put_bytes-requires
put_bytes-requires c =
    let start : c.fixed_start-from.result ≡ fixed_start (form_of c.args.task) c.args.reel.now c.args.task.first = c.fixed_start-from.ensures ∙ ap (λ (f : Form). fixed_start f c.args.reel.now c.args.task.first) c.form_of.ensures in
    let e = c.put_ends in
    let first = e.new.out in
    let l = room_behind c.args.out.now c.requires.lent c.requires.format_value start _ e.auto.out in
    bytes_given c.args.out.now c.requires.lent c.requires.format_value start c.rest-data.ensures _
    (omega (arith, l, mid_len (4 * c.args.blocks + 8) (length first) first (omega arith)))

pub returns : goal.returns
returns c =
    let start : c.fixed_start-from.result ≡ fixed_start (form_of c.args.task) c.args.reel.now c.args.task.first = c.fixed_start-from.ensures ∙ ap (λ (f : Form). fixed_start f c.args.reel.now c.args.task.first) c.form_of.ensures in
    let e = c.put_ends in
    body_put _ _ _ _ _ _ _ c.requires.format_value start c.rest-data.ensures e.auto.out e.ensures c.put_bytes.ensures
