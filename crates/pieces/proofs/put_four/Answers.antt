-- The four bytes take the place of those that stood there.
use mathlib.Core.Path.{ap, ◌∙◌}
use native.Mathlib.Omega.{arith}
use Prim.Native.Nat.{◌+◌, ◌-◌}
use lib.ListN.{drop, length-take, length-drop}
use Rattle.rules.specs.Halves.{over}
use Rattle.rules.proofs.Base.LentParts.{part_over}
use Rattle.pieces.proofs.put_four.Goals as goal

pub returns : goal.returns
returns c =
    let a = c.args in
    let e = c.copy_from_slice.ensures in
    let f = length-drop a.at a.out.now in
    part_over a.at 4 a.out.now _ (omega (arith, e.len, c.requires, length-take (a.at + 4 - a.at) (drop a.at a.out.now)))
    ∙ ap (λ four. over a.at four a.out.now) e.after
