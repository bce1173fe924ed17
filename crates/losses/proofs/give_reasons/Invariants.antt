-- The halves below h have their reasons, and the others are as they were.
use mathlib.Core.Path.{◌≡◌}
use Prim.Native.Nat.{ℕ}
use lib.ListN.{length}
use Rattle.rows.specs.Kept.{fields_in}
use Rattle.sources.proofs.Walk.{Upto}
use Rattle.losses.specs.Promise.{loss_of}
use Rattle.losses.proofs.give_reasons.Given as goal

abbrev pub invariant-loop-h : goal.invariant-loop-h
invariant-loop-h l = (length l.initial.halves ≡ 8192) × Upto 0 (λ (k a b : ℕ). b ≡ loss_of (fields_in l.fields) l.n k a) l.initial.halves l.halves l.h
