-- The marks permit what the first k fields permit.
use mathlib.Core.Path.{◌≡◌}
use Prim.Native.Nat.{ℕ, ◌<◌}
use lib.ListN.{length, take, get_or}
use Rattle.rules.specs.Permitted.{permitted}
use Rattle.rules.specs.Lent.{zone_f}
use Rattle.rows.specs.Kept.{fields_in}
use Rattle.keeping.specs.Marks.{MarkSays}
use Rattle.keeping.proofs.permitted.Given as goal

abbrev pub invariant-loop-k : goal.invariant-loop-k
invariant-loop-k l = (length l.marks ≡ 8192) × ((h : ℕ) → h < 8192 → MarkSays (get_or l.marks h 0) (permitted zone_f (take l.k (fields_in l.fields)) h))
