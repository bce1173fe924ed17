-- `pairs::written_over` meets its contract: the first bytes of the room are theirs with the fields over them, and these are compared with theirs.
use mathlib.Core.Path.{◌≡◌, ◌∙◌}
use native.Mathlib.Omega.{arith}
use lib.ListN.{length, take}
use lib.Seq.{length-take-le}
use Rattle.pairs.proofs.AgreeLaws.{over_copy}
use Rattle.pairs.proofs.written_over.Goals as goal

pub returns : goal.returns
returns c =
    let front : let a = c.args in length (take (length a.theirs.now) c.copy.new.dst) ≡ length a.theirs.now = length-take-le (length c.args.theirs.now) c.copy.new.dst (omega (arith, c.copy.auto.dst, c.requires.theirs_len_bound.1)) in
    let a = c.args in
    over_copy a.fields.now a.record.now a.theirs.now a.room.now c.copy.new.dst c.put_fields.new.out _ c.same.result c.copy.ensures
    c.put_fields.ensures (c.put_fields.auto.out ∙ front) c.same.ensures
