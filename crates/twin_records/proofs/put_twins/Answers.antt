-- The first record fills the first n bytes and the second the next, and for the tail 00 is put behind.
use Prim.Native.Nat.{◌*◌, ◌≤◌, ◌<◌}
use native.Mathlib.Omega.{arith}
use lib.ListN.{length}
use Rattle.twin_records.proofs.RecordLaws.{plain_values, fewer_values, needed_tail, needed_least, length_front_part, written_other, written_tail}
use Rattle.twin_records.proofs.put_twins.Goals as goal

pub put_record-requires : goal.put_record-requires
put_record-requires c =
    let room : 2 * c.args.n ≤ length c.args.out.now = omega (arith, needed_least c.args.n c.args.lost) in
    fewer_values _ _ (2 * c.args.n) _ (omega (arith, length_front_part c.args.n c.args.out.now room)) (plain_values _ c.args.lost _ c.requires.values)

pub returns-then-lost-end : goal.returns-then-lost-end
returns-then-lost-end c =
    let behind : 2 * c.args.n < length c.args.out.now = omega (arith, needed_tail c.args.n c.args.lost c.if-lost-end.true) in
    written_tail c.args.values.now c.args.n c.args.lost c.args.out.now (omega arith) _ c.put_record.ensures _ c.put_record-2.ensures c.if-lost-end.true behind

pub returns-else-lost-end : goal.returns-else-lost-end
returns-else-lost-end c =
    written_other c.args.values.now c.args.n c.args.lost c.args.out.now (omega (arith, needed_least c.args.n c.args.lost)) _ c.put_record.ensures _ c.put_record-2.ensures c.if-lost-end.false
