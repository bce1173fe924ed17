-- The seen marks are those of the output halves below g, and every half below h is kept. Where the output halves run out, no source is h.
use Prim.Native.Nat.{ℕ, ◌-◌, ◌≤◌, ◌<◌}
use Rattle.sources.proofs.Seen.{Seen}
use Rattle.keeping.proofs.Searches.{Kept}
use Rattle.keeping.proofs.lost_half.Given as goal

abbrev pub invariant-loop-seen : goal.invariant-loop-seen
invariant-loop-seen l = (l.g ≤ l.outputs) × Seen l.sources l.g l.seen

abbrev pub decreases-loop-seen : goal.decreases-loop-seen
decreases-loop-seen l = l.outputs - l.g

abbrev pub invariant-loop-h : goal.invariant-loop-h
invariant-loop-h l = (l.g ≤ l.outputs) × Seen l.sources l.g l.seen × ((j : ℕ) → j < l.h → Kept l.marks l.sources l.outputs j)
