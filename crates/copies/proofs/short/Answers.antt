-- Each turn puts the byte at the seam, and after the last all bytes of src stand before the rest of dst.
use mathlib.Core.Path.{◌∙◌}
use native.Mathlib.Omega.{arith}
use Rattle.copies.proofs.Copying.{copied, copied_more}
use Rattle.copies.proofs.short.Goals as goal

pub returns : goal.returns
returns c = c.loop-i.invariant ∙ copied _ _ c.loop-i.i (omega arith)

pub loop-i-preserved : goal.loop-i-preserved
loop-i-preserved c = rw c.loop-i.invariant (copied_more c.args.src.now c.args.dst.now c.loop-i.i (omega arith) (omega arith))
