-- Each turn puts the output of one record more.
use mathlib.Core.Path.{◌≡◌}
use Prim.Native.Nat.{◌+◌, ◌-◌, ◌≤◌}
use native.Mathlib.Omega.{arith}
use lib.ListN.{length, take, drop}
use borrow.Rule.Slice.PartMut.{same_len_mid, mid_len}
use Rattle.fixed.proofs.OutputLaws.{output_start, whole_left, room_left, one_length, output_more, output_end}
use Rattle.fixed.proofs.put_outputs.Goals as goal

pub loop-at-init : goal.loop-at-init
loop-at-init c = output_start _ _ _ _ _

pub slice_bounds-put_record-end : goal.slice_bounds-put_record-end
slice_bounds-put_record-end c =
    let whole : c.loop-at.at + c.args.n ≤ length c.args.«data».now = let y = c.requires in whole_left c.loop-at.invariant (omega arith) y.fielded.fair y.even y.roomy in
    whole

pub slice_bounds-put_record-count-in-loop-at : goal.slice_bounds-put_record-count-in-loop-at
slice_bounds-put_record-count-in-loop-at c =
    let room : c.loop-at.to + c.args.width ≤ length c.loop-at.out = let y = c.requires in room_left c.loop-at.invariant (omega arith) y.fielded.fair y.even y.roomy in
    omega (arith, room)

pub slice_bounds-put_record-start-in-loop-at : goal.slice_bounds-put_record-start-in-loop-at
slice_bounds-put_record-start-in-loop-at c =
    let room : c.loop-at.to + c.args.width ≤ length c.loop-at.out = let y = c.requires in room_left c.loop-at.invariant (omega arith) y.fielded.fair y.even y.roomy in
    omega (arith, room)

pub put_record-requires : goal.put_record-requires
put_record-requires c =
    let whole : c.loop-at.at + c.args.n ≤ length c.args.«data».now = let y = c.requires in whole_left c.loop-at.invariant (omega arith) y.fielded.fair y.even y.roomy in
    let room : c.loop-at.to + c.args.width ≤ length c.loop-at.out = let y = c.requires in room_left c.loop-at.invariant (omega arith) y.fielded.fair y.even y.roomy in
    let size : length (take (c.loop-at.at + c.args.n - c.loop-at.at) (drop c.loop-at.at c.args.«data».now)) ≡ c.args.n = let y = c.requires in one_length c.loop-at.invariant (omega arith) y.fielded.fair y.even y.roomy in
    let y = c.requires in
    let out = c.loop-at.out in
    let to = c.loop-at.to in
    let n = size in record { fielded = y.fielded; n_in_bounds = omega (arith, n); n_in_bounds_2 = omega (arith, mid_len to (length out) out (omega arith), room); covers = c.covers-covered.ensures; record_len_bound = omega (arith, n, whole, y.short) }

pub overflow_add-to : goal.overflow_add-to
overflow_add-to c =
    let room : c.loop-at.to + c.args.width ≤ length c.loop-at.out = let y = c.requires in room_left c.loop-at.invariant (omega arith) y.fielded.fair y.even y.roomy in
    omega (arith, room, c.loop-at.invariant.same, c.well_formed.1.1.1.1.0)

pub loop-at-preserved : goal.loop-at-preserved
loop-at-preserved c =
    let k = c.loop-at in
    let r = c.put_record in
    output_more k.invariant (omega arith) _ r.ensures (same_len_mid k.to (length k.out - k.to) k.out r.new.out r.auto.out)

pub returns : goal.returns
returns c = output_end c.loop-at.invariant c.requires.some (omega arith) c.requires
