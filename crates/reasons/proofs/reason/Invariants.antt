-- The fields that are left make of the reason so far what all fields make of 1.
use mathlib.Core.Path.{◌≡◌}
use Prim.Native.Nat.{ℕ, ◌*◌}
use lib.ListN.{drop}
use Rattle.rules.specs.Lent.{zone_f}
use Rattle.rules.specs.Twins.{reason_by}
use Rattle.rows.specs.Kept.{fields_in}
use Rattle.sources.specs.Promise.{RowInside}
use Rattle.reasons.specs.Promise.{number_of}
use Rattle.reasons.proofs.reason.Given as goal

abbrev pub invariant-loop-k : goal.invariant-loop-k
invariant-loop-k l =
    (n m : ℕ) → RowInside l.fields n m → reason_by zone_f (2 * n) l.h (number_of l.reason) (drop l.k (fields_in l.fields)) ≡ reason_by zone_f (2 * n) l.h 1 (fields_in l.fields)
