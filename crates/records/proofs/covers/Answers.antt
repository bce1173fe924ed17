-- Each turn reads a number that 16 bits hold, and goes on by one field.
use Prim.Native.Nat.{◌+◌, ◌*◌}
use native.Mathlib.Omega.{arith}
use Rattle.rows.specs.Flat.{field_at}
use Rattle.records.proofs.CoverLaws.{reach_more, reach_end}
use Rattle.records.proofs.covers.Goals as goal

pub farther-covered-requires : goal.farther-covered-requires
unfolding field_at
farther-covered-requires c =
    rw c.field_at.ensures (omega (arith, c.type_inv.fields (5 * c.loop-i.i + 4)), omega (arith, c.type_inv.fields (5 * c.loop-i.i + 3)))

pub loop-i-preserved : goal.loop-i-preserved
loop-i-preserved c = reach_more c.args.fields.now c.loop-i.covered c.loop-i.i c.loop-i.invariant (omega arith) _ c.field_at.ensures _ c.farther-covered.ensures

pub returns : goal.returns
returns c = reach_end c.args.fields.now c.loop-i.covered c.loop-i.i c.loop-i.invariant (omega arith) c.args.width
