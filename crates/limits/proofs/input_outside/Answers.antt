-- `limits::input_outside` meets its contract: of a size as it is, and of key and data the column of the first outside its limits.
use Prim.Native.Nat.{◌+◌, ◌-◌}
use native.Mathlib.Omega.{arith}
use Rattle.rules.specs.Base.{within}
use Rattle.limits.proofs.LimitLaws.{two_first}
use Rattle.limits.proofs.input_outside.Goals as goal

pub returns-in-Plain : goal.returns-in-Plain
returns-in-Plain c = rw c.in-Plain.is c.size_outside.ensures

pub returns-in-Keyed : goal.returns-in-Keyed
returns-in-Keyed c =
    let k = c.in-Keyed in
    let a = c.args in
    rw (c.in-Keyed.is, c.first_of.ensures, c.number_outside.ensures, c.left.ensures, c.number_outside-first.ensures)
    (two_first (within 1 4096 k.key) (within 1 (4096 - k.key) k.data) (a.column + 5) (a.column + a.second) (omega arith))
