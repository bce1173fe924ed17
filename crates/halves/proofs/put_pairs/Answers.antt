-- The last byte is put first, and each turn puts the two halves of the byte that is next.
use mathlib.Core.Path.{refl}
use native.Mathlib.Omega.{arith}
use Rattle.halves.proofs.UnpackPairs.{pairs_start, pairs_more}
use Rattle.halves.proofs.put_pairs.Goals as goal

pub loop-done-init : goal.loop-done-init
loop-done-init c = pairs_start c.args.src.now _ _ (omega arith) c.args.dst.now _ (omega arith) c.turned.ensures

pub loop-done-preserved : goal.loop-done-preserved
loop-done-preserved c =
    pairs_more c.args.src.now _ _ (omega arith) c.loop-done.dst _ _ _ _ _ refl refl (omega arith) (omega arith) (omega arith) c.loop-done.invariant
