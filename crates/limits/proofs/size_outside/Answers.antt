-- `limits::size_outside` meets its contract: of one or two numbers the column of the first outside its limits is taken.
use Prim.Native.Nat.{◌+◌}
use native.Mathlib.Omega.{arith}
use Rattle.rules.specs.Base.{within}
use Rattle.limits.proofs.LimitLaws.{two_first}
use Rattle.limits.proofs.size_outside.Goals as goal

pub returns-in-Two : goal.returns-in-Two
returns-in-Two c =
    rw (c.in-Two.is, c.first_of.ensures, c.number_outside.ensures, c.number_outside-first.ensures) (two_first (within 1 4096 c.in-Two.n) (within 1 32760 c.in-Two.m) (c.args.column + 3) (c.args.column + c.args.second) (omega arith))

pub returns-in-One : goal.returns-in-One
returns-in-One c = rw (c.in-One.is, c.number_outside-in-One.ensures, c.least.ensures)
