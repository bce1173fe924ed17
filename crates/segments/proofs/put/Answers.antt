-- The part lies in the block, and is lent as it stands there.
use mathlib.Core.Path.{ap}
use native.Mathlib.Omega.{arith}
use lib.ListN.{length}
use Rattle.segments.proofs.CopyLaws.{lent_put}
use Rattle.segments.proofs.put.Goals as goal

pub overflow_add-end : goal.overflow_add-end
overflow_add-end c = omega (arith, c.requires.0, ap length c.block-b.ensures)

pub slice_bounds-copy-end : goal.slice_bounds-copy-end
slice_bounds-copy-end c = omega (arith, c.requires.0, ap length c.block-b.ensures)

pub returns : goal.returns
returns c =
    let a = c.args in
    lent_put a.reel.now a.v a.n _ _ _ c.block-b.ensures c.copy.ensures
