-- `halves::pack_at` meets its contract: each of its four answers is the byte that stands at such a distance from the right end.
use mathlib.Core.Path.{sym, ◌∙◌}
use Prim.Native.Nat.{◌-◌}
use native.Mathlib.Omega.{arith}
use Rattle.halves.proofs.PackPlaces.{pack_last, pack_two, pack_one, pack_none}
use Rattle.halves.proofs.pack_at.Goals as goal

pub returns-then-right-eq0 : goal.returns-then-right-eq0
returns-then-right-eq0 c =
    let a = c.args in
    c.turned.ensures ∙ sym (pack_last a.m a.src.now (omega arith) a.i 0 (omega arith) _ (omega arith) (omega arith))

pub returns-then-right-n : goal.returns-then-right-n
returns-then-right-n c =
    let a = c.args in
    c.pair.ensures ∙ sym (pack_two a.m a.src.now (omega arith) a.i (a.m - 1 - a.i) (omega arith) _ _ (omega arith) (omega arith) (omega arith))

pub returns-then-right-n-2 : goal.returns-then-right-n-2
returns-then-right-n-2 c =
    let a = c.args in
    omega (arith, c.pair-then-right-n-2.ensures, pack_one a.m a.src.now (omega arith) a.i (a.m - 1 - a.i) (omega arith) (omega arith))

pub returns : goal.returns
returns c =
    let a = c.args in
    sym (pack_none a.m a.src.now (omega arith) a.i (a.m - 1 - a.i) (omega arith) (omega arith))
