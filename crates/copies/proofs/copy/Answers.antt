-- Of eight bytes and more those that are copied stand before the rest of dst, which is what `over` puts at its front.
use mathlib.Core.Path.{refl}
use Rattle.rules.proofs.Base.LentParts.{front_over}
use Rattle.copies.proofs.copy.Goals as goal

pub returns : goal.returns
returns c = rw c.copy_from_slice.ensures.after (front_over _ _ _ refl)
