-- `records::put_record` meets its contract: the fields over the ground are the fields over blanks, and with CV the tail is put behind them.
use mathlib.Core.Path.{◌≡◌, ◌∙◌}
use Prim.Native.Nat.{◌+◌, ◌-◌, ◌≤◌}
use native.Mathlib.Omega.{arith}
use lib.ListN.{length}
use borrow.Author.Rules.{part_to_end}
use Rattle.rules.proofs.Base.LentParts.{part_length}
use Rattle.records.proofs.PutLaws.{fields_wider, tail_room, put_alone, put_tail}
use Rattle.records.proofs.put_record.Goals as goal

-- the tail has room
pub put_fields-requires : goal.put_fields-requires
put_fields-requires c =
    fields_wider (length c.args.«record».now) (length c.put_ground.new.out) c.requires.n_in_bounds (omega (arith, c.put_ground.auto.out)) c.requires.fielded

pub slice_bounds-copy-end-then-carries : goal.slice_bounds-copy-end-then-carries
slice_bounds-copy-end-then-carries c =
    let kept : length c.put_fields.new.out ≡ length c.args.out.now = c.put_fields.auto.out ∙ c.put_ground.auto.out in
    let room : c.args.width + (length c.args.«record».now - c.args.n) ≤ length c.args.out.now = tail_room _ _ _ _ c.if-carries.true c.requires.n_in_bounds_2 in
    omega (arith, room, kept)

pub returns-then-carries : goal.returns-then-carries
returns-then-carries c =
    let kept : length c.put_fields.new.out ≡ length c.args.out.now = c.put_fields.auto.out ∙ c.put_ground.auto.out in
    let room : c.args.width + (length c.args.«record».now - c.args.n) ≤ length c.args.out.now = tail_room _ _ _ _ c.if-carries.true c.requires.n_in_bounds_2 in
    rw c.if-carries.true
    (put_tail c.args.fields.now c.args.n c.args.width c.args.covered c.args.«record».now c.args.out.now _ _ c.requires.n_in_bounds (omega arith) c.requires.covers
    c.put_ground.ensures c.put_fields.ensures
    _ _ c.copy.new.dst (part_to_end c.args.«record».now c.args.n) (part_length c.args.width _ c.put_fields.new.out (omega (arith, room, kept))) c.copy.ensures room)

pub returns-else-carries : goal.returns-else-carries
returns-else-carries c =
    rw c.if-carries.false
    (put_alone c.args.fields.now c.args.n c.args.width c.args.covered c.args.«record».now c.args.out.now _ _ c.requires.n_in_bounds (omega arith) c.requires.covers
    c.put_ground.ensures c.put_fields.ensures)
