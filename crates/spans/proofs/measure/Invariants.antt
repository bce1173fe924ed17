-- Each turn tallies one record more, by its length alone.
use mathlib.Core.List.{List}
use Prim.Native.Nat.{ℕ}
use Rattle.spans.specs.Promise.{SpotStanding}
use Rattle.spans.proofs.WalkLaws.{Passes}
use Rattle.spans.proofs.measure.Given as goal

abbrev pub invariant-loop-number : goal.invariant-loop-number
invariant-loop-number l = (y : SpotStanding l.reel l.initial.at l.count) → (rest : List (List ℕ)) × Passes l.m y l.at l.tally l._number rest
