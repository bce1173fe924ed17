-- Before each turn the first i bytes of src stand before the rest of dst.
use Rattle.std.proofs.Common.{◌≡◌, ◌++◌, take, drop}
use Rattle.copies.proofs.short.Given as goal

abbrev pub invariant-loop-i : goal.invariant-loop-i
invariant-loop-i l = l.dst ≡ take l.i l.src ++ drop l.i l.initial.dst
