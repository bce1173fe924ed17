-- `halves::half_at` meets its contract: an even place has the high half of its byte, an odd one the low half.
use mathlib.Core.Path.{sym}
use Prim.Native.Nat.{◌/◌}
use native.Mathlib.Omega.{arith}
use Rattle.rules.proofs.Halves.BytePlaces.{halves_high, halves_low}
use Rattle.halves.proofs.half_at.Goals as goal

pub returns-then-place-eq0 : goal.returns-then-place-eq0
returns-then-place-eq0 c =
    let a = c.args in
    (sym (halves_high a.src.now (a.place / 2) a.place (omega arith)), omega (arith, c.type_inv.src (a.place / 2)))

pub returns : goal.returns
returns c =
    let a = c.args in
    (sym (halves_low a.src.now (a.place / 2) a.place (omega arith)), omega arith)
