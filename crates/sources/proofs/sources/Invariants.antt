-- `sources::sources` meets its contract: before each turn the numbers stand for the sources after the first i fields.
use mathlib.Core.Path.{◌≡◌}
use Prim.Native.Nat.{ℕ, ◌*◌}
use lib.ListN.{length, take}
use Rattle.rules.specs.Lent.{zone_f}
use Rattle.rules.specs.Halves.{sources}
use Rattle.rows.specs.Kept.{fields_in}
use Rattle.sources.specs.Promise.{RowInside, Stand}
use Rattle.sources.proofs.sources.Given as goal

abbrev pub invariant-loop-i : goal.invariant-loop-i
invariant-loop-i l = (length l.out ≡ 8192) × ((n m : ℕ) → RowInside l.fields n m → Stand l.out (sources zone_f m (take l.i (fields_in l.fields)) (2 * n)))
