-- The halves below h say whether they are missing, and the others are still marks.
use mathlib.Core.Path.{◌≡◌}
use mathlib.Core.Bool.{false, not, ◌&&◌}
use Prim.Native.Nat.{ℕ}
use lib.Dec.{ltb}
use lib.ListN.{length, get_or}
use Rattle.rules.specs.Plan.{bit}
use Rattle.sources.proofs.Walk.{Upto}
use Rattle.keeping.specs.Marks.{choices_of}
use Rattle.keeping.proofs.missing_halves.Given as goal

abbrev pub invariant-loop-h : goal.invariant-loop-h
invariant-loop-h l =
    (length l.initial.halves ≡ 8192) × Upto 0 (λ (k a b : ℕ). b ≡ bit (not (ltb (choices_of a) 2) && not (get_or l.seen k false))) l.initial.halves l.halves l.h
