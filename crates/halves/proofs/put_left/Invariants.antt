-- Before each turn the bytes from the place reached on, up to the end, are those of their places, and those behind it are as they were.
use Rattle.std.proofs.Common.{◌≡◌, ℕ, ◌≤◌, ◌<◌, get_or}
use Rattle.halves.proofs.put_left.Given as goal

abbrev pub invariant-loop-i : goal.invariant-loop-i
invariant-loop-i g l =
    record {
      written : (k : ℕ) → l.i ≤ k → k < l.end → goal.F-post g l.byte k (get_or l.dst k 0);
      stays : (k : ℕ) → l.end ≤ k → get_or l.dst k 0 ≡ get_or l.initial.dst k 0;
    }
