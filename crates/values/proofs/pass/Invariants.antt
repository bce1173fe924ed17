-- Before each turn all bytes so far pass.
use mathlib.Core.Bool.{true}
use Prim.Native.Nat.{ℕ, ◌<◌}
use lib.ListN.{get_or}
use Rattle.values.proofs.pass.Given as goal

abbrev pub invariant-loop-byte : goal.invariant-loop-byte
invariant-loop-byte g l = (i : ℕ) → i < l.byte-index → goal.F-post g l.each (get_or l.input i 0) true
