-- `keys::laid_at` meets its contract: by the part, and of one taken from the key by whether it ends inside the key.
use Prim.Native.Nat.{◌+◌, ◌-◌}
use native.Mathlib.Omega.{arith}
use borrow.Author.Tests.{le-leb, lt-leb}
use Rattle.keys.proofs.laid_at.Goals as goal

pub returns-then-r-size : goal.returns-then-r-size
returns-then-r-size c =
    let a = c.args in
    rw (c.in-Key.is, le-leb (a.r + a.size - 1) a.key (omega (arith, c.if-r-size.true)))

pub returns-in-Data : goal.returns-in-Data
returns-in-Data c = rw c.in-Data.is

pub returns-else-r-size : goal.returns-else-r-size
returns-else-r-size c =
    let a = c.args in
    rw (c.in-Key.is, lt-leb (a.r + a.size - 1) a.key (omega (arith, c.if-r-size.false)))
