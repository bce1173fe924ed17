-- The halves before the value have given way to their lowest values, and the others are still marks.
use mathlib.Core.Path.{◌≡◌}
use Prim.Native.Nat.{ℕ}
use lib.ListN.{length}
use Rattle.sources.proofs.Walk.{Upto}
use Rattle.keeping.specs.Marks.{lowest_of}
use Rattle.keeping.proofs.lowest_halves.Given as goal

abbrev pub invariant-loop-value : goal.invariant-loop-value
invariant-loop-value l = (length l.initial.values ≡ 8192) × Upto 0 (λ (k a b : ℕ). b ≡ lowest_of a) l.initial.values l.values l.value-index
