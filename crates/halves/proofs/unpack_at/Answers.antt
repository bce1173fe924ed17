-- `halves::unpack_at` meets its contract: each of its three answers is the byte that stands at such a place.
use mathlib.Core.Path.{sym, ap, ◌∙◌}
use Prim.Native.Nat.{ℕ, ◌+◌, ◌-◌, ◌*◌}
use native.Mathlib.Omega.{arith}
use lib.ListN.{length}
use Rattle.rules.specs.Lent.{zone_f}
use Rattle.rules.proofs.Halves.BytePlaces.{unpack_last}
use Rattle.rules.proofs.Halves.HalfBytes.{unpack_half, unpack_none}
use Rattle.halves.proofs.unpack_at.Goals as goal

pub returns-then-before-eq0 : goal.returns-then-before-eq0
returns-then-before-eq0 c =
    let a = c.args in
    c.turned.ensures ∙ sym (unpack_last zone_f a.m a.src.now (omega arith) (omega arith) a.i (length a.src.now - 1) (omega arith) (omega arith))

pub returns-then-last-before : goal.returns-then-last-before
returns-then-last-before c =
    let a = c.args in
    sym (unpack_none zone_f a.m a.src.now (omega arith) a.i (a.m - 1 - a.i) (omega arith) (omega arith) (omega arith))

pub returns : goal.returns
returns c =
    let a = c.args in
    let q = a.m - 1 - a.i in
    ap (λ (h : ℕ). 16 * zone_f + h) c.half_at.ensures.0
    ∙ sym (unpack_half zone_f a.m a.src.now (omega arith) a.i q (omega arith) (omega arith) (2 * (length a.src.now - 1) - q) (omega arith))
